-- Opening is a glance.
use Rattle.std.proofs.Common.{refl}
use Rattle.folder_side.specs.Calls.{Opened}
use Rattle.folder_side.proofs.CallLemmas.{glances_none, glances_one}
use Rattle.tree_push.proofs.block_upload.open.Goals as goal

pub returns-in-Ok-true-clause-traced : goal.returns-in-Ok-true-clause-traced
returns-in-Ok-true-clause-traced g c = glances_one (Opened c.args.path.now c.in-Ok-true.field-0) _ _ refl c.in-Ok-true.ensures.traced

pub returns-in-Ok-false-clause-traced : goal.returns-in-Ok-false-clause-traced
returns-in-Ok-false-clause-traced g c = glances_one (Opened c.args.path.now c.in-Ok-false.field-0) _ _ refl c.in-Ok-false.ensures.traced

pub returns-in-Err-clause-traced : goal.returns-in-Err-clause-traced
returns-in-Err-clause-traced g c = glances_none _ _ c.in-Err.ensures.traced
