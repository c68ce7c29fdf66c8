-- A directory has no blocks.
use Rattle.std.proofs.Common.{[], refl, subst, sym}
use Rattle.folder_side.specs.declared.scan_report.Seen.{Seen}
use Rattle.folder_side.proofs.CallLemmas.{glances_same}
use Rattle.tree_push.specs.Asking.{Ran, PutsAmong}
use Rattle.tree_push.specs.Upload.{blocks_of}
use Rattle.tree_push.specs.BlockUpload.{PutsOff, StandsThere}
use Rattle.tree_push.specs.Lacking.{has_key}
use Rattle.tree_push.proofs.BlockUploadLemmas.{off_none}
use Rattle.tree_push.proofs.SentOnceLemmas.{takes_none}
use Rattle.tree_push.proofs.TraceLemmas.{ran_none}
use Rattle.tree_push.proofs.upload.put_seen.Goals as goal

pub returns-in-Dir-clause-value : goal.returns-in-Dir-clause-value
returns-in-Dir-clause-value g c =
    subst
    (λ (s : Seen). Ran c.args.library.now (PutsAmong (has_key c.args.lacking.now)) (PutsOff (blocks_of s) c.args.lacking.now c.args.lacking.now) (g.R.Remote.sends c.args.remote.now)
    (g.R.Remote.sends c.args.remote.now))
    (sym c.in-Dir.is)
    (ran_none c.args.library.now (PutsAmong (has_key c.args.lacking.now)) (PutsOff [] c.args.lacking.now c.args.lacking.now) (g.R.Remote.sends c.args.remote.now) (g.R.Remote.sends c.args.remote.now) refl
    (off_none c.args.lacking.now))

pub returns-in-Dir-clause-same : goal.returns-in-Dir-clause-same
returns-in-Dir-clause-same g c = λ c' told is. subst (λ (s : Seen). StandsThere c.args.cuts c' c.args.path.now s) (sym c.in-Dir.is) tt

pub returns-in-Dir-clause-once : goal.returns-in-Dir-clause-once
returns-in-Dir-clause-once g c = takes_none c.args.lacking.now (g.R.Remote.sends c.args.remote.now)

pub returns-in-Dir-clause-traced : goal.returns-in-Dir-clause-traced
returns-in-Dir-clause-traced g c = glances_same _ _ refl
