use Rattle.std.proofs.Common.{subst, sym, [], ◌∷◌}
use Rattle.folder_storage.specs.Durability.{In}
use Rattle.folder_storage.proofs.DurabilityLemmas.{In-front, In-last}
use Rattle.folder_storage.proofs.unsynced.note.Goals as goal

pub returns-clause-found : goal.returns-clause-found
returns-clause-found c = subst (In c.args.key.now) (sym c.in_ok-push.ensures.items) (In-last c.args.keys.now.items c.args.key.now)

pub returns-clause-listed : goal.returns-clause-listed
returns-clause-listed c other is = subst (In other) (sym c.in_ok-push.ensures.items) (In-front other c.args.keys.now.items (c.args.key.now ∷ []) is)
