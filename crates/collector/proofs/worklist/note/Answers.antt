-- The table tells what stood there.
use Rattle.std.proofs.Common.{◌∙◌, ap, is_some}
use Rattle.collector.proofs.worklist.note.Goals as goal

pub returns-clause-told : goal.returns-clause-told
returns-clause-told c = c.is_some.ensures ∙ ap is_some c.in_ok-before.ensures.told
