-- The ids of the keys are asked about.
use Rattle.std.proofs.Common.{◌∙◌, ℕ, List, [], map, subst}
use Rattle.std.specs.FinMap as fin
use Rattle.tree_push.specs.Asking.{AsksAmong, Went, key_of}
use Rattle.tree_push.specs.Lacking.{AsksNoting}
use Rattle.tree_push.specs.SentOnce.{SendsFront}
use Rattle.tree_push.specs.Wanted.{ids_in}
use Rattle.tree_push.proofs.SentOnceLemmas.{front_none}
use Rattle.tree_push.proofs.upload.ask_wanted.Goals as goal

pub returns-in-Ok-clause-value : goal.returns-in-Ok-clause-value
returns-in-Ok-clause-value g c =
    subst
    (λ (ids : List (List ℕ)). Went c.args.library.now (AsksAmong c.args.kind ids) (AsksNoting c.args.library.now c.args.kind ids c.args.lacking.now c.ask_lacking.new.lacking) (g.R.Remote.sends c.args.remote.now)
    (g.R.Remote.sends c.ask_lacking.new.remote) c.ask_lacking.result)
    (c.slice.ensures.value ∙ c.in-Ok.ensures.value) c.ask_lacking.ensures.value

pub returns-in-Ok-clause-once : goal.returns-in-Ok-clause-once
returns-in-Ok-clause-once g c =
    subst (λ (ids : List (List ℕ)). SendsFront (map (key_of c.args.kind) ids) [] (g.R.Remote.sends c.args.remote.now) (g.R.Remote.sends c.ask_lacking.new.remote))
    (c.slice.ensures.value ∙ c.in-Ok.ensures.value) c.ask_lacking.ensures.once

pub returns-in-Err-clause-once : goal.returns-in-Err-clause-once
returns-in-Err-clause-once g c = front_none (map (key_of c.args.kind) (ids_in (fin.entries c.args.wanted.now))) [] (g.R.Remote.sends c.args.remote.now)
