use Rattle.std.proofs.Common.{subst, sym, [], ◌∷◌}
use Rattle.folder_storage.specs.Durability.{In}
use Rattle.folder_storage.proofs.DurabilityLemmas.{In-front, In-last}
use Rattle.folder_storage.proofs.durability.add.Goals as goal

pub returns-clause-ok : goal.returns-clause-ok
returns-clause-ok c = subst (In c.args.directory) (sym c.in_ok-push.ensures.items) (In-last c.args.directories.now.items c.args.directory)

pub returns-clause-stays : goal.returns-clause-stays
returns-clause-stays c other is = subst (In other) (sym c.in_ok-push.ensures.items) (In-front other c.args.directories.now.items (c.args.directory ∷ []) is)
