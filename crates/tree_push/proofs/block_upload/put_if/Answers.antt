-- There is no chunk.
use Rattle.std.proofs.Common.{[], ℕ, List, Option, map, refl, subst, sym}
use Rattle.std.specs.Option.{option_to_list}
use Rattle.sha1.specs.Sha1.{sha1}
use Rattle.tree_push.specs.Asking.{Ran, PutsAmong}
use Rattle.tree_push.specs.BlockUpload.{PutsOff}
use Rattle.tree_push.specs.Lacking.{has_key}
use Rattle.tree_push.proofs.BlockUploadLemmas.{off_none}
use Rattle.tree_push.proofs.SentOnceLemmas.{takes_none}
use Rattle.tree_push.proofs.TraceLemmas.{ran_none}
use Rattle.tree_push.proofs.block_upload.put_if.Goals as goal

pub returns-in-None-clause-value : goal.returns-in-None-clause-value
returns-in-None-clause-value g c =
    subst
    (λ (o : Option (List ℕ)). Ran c.args.library.now (PutsAmong (has_key c.args.lacking.now)) (PutsOff (map sha1 (option_to_list o)) c.args.lacking.now c.args.lacking.now) (g.R.Remote.sends c.args.remote.now)
    (g.R.Remote.sends c.args.remote.now))
    (sym c.in-None.is)
    (ran_none c.args.library.now (PutsAmong (has_key c.args.lacking.now)) (PutsOff [] c.args.lacking.now c.args.lacking.now) (g.R.Remote.sends c.args.remote.now) (g.R.Remote.sends c.args.remote.now) refl
    (off_none c.args.lacking.now))

pub returns-in-None-clause-once : goal.returns-in-None-clause-once
returns-in-None-clause-once g c = takes_none c.args.lacking.now (g.R.Remote.sends c.args.remote.now)
