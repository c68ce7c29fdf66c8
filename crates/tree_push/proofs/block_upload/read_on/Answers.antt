-- Reading is a glance.
use Rattle.folder_side.proofs.CallLemmas.{glances_none}
use Rattle.tree_push.proofs.block_upload.read_on.Goals as goal

pub returns-in-Err-clause-traced : goal.returns-in-Err-clause-traced
returns-in-Err-clause-traced g c = glances_none _ _ c.in-Err.ensures.traced
