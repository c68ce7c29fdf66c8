-- It is opened, and read: the folder is as it was between.
use Rattle.std.proofs.Common.{◌∙◌}
use Rattle.folder_side.proofs.CallLemmas.{glances_then}
use Rattle.tree_push.proofs.block_upload.read_piece.Goals as goal

pub returns-in-Ok-clause-ok : goal.returns-in-Ok-clause-ok
returns-in-Ok-clause-ok g c = λ folder bytes told there. c.read_on-in-Ok.ensures.ok folder bytes (c.in-Ok.ensures.stays.0 ∙ told) there

pub returns-in-Ok-clause-cause : goal.returns-in-Ok-clause-cause
returns-in-Ok-clause-cause g c = λ folder bytes told there all. c.read_on-in-Ok.ensures.cause folder bytes (c.in-Ok.ensures.stays.0 ∙ told) there all

pub returns-in-Ok-clause-traced : goal.returns-in-Ok-clause-traced
returns-in-Ok-clause-traced g c = glances_then _ _ _ c.in-Ok.ensures.traced c.read_on-in-Ok.ensures.traced
