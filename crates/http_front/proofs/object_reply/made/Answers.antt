-- All of the text is in the first part.
use Rattle.std.proofs.Common.{◌∙◌}
use Rattle.http_front.proofs.object_reply.made.Goals as goal

pub returns-in-Ok-clause-value : goal.returns-in-Ok-clause-value
returns-in-Ok-clause-value c = c.whole.ensures.value ∙ c.in-Ok.ensures.value
