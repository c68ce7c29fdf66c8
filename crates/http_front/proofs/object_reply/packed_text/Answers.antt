-- The rows are those of the list.
use Rattle.std.proofs.Common.{ap, subst, ◌∙◌}
use Rattle.http_front.specs.Rows.{FitRows, rows_text}
use Rattle.http_front.proofs.object_reply.packed_text.Goals as goal

pub returns-in-Ok-clause-value : goal.returns-in-Ok-clause-value
returns-in-Ok-clause-value c = c.from_vec.ensures.value ∙ c.in-Ok.ensures.value ∙ ap rows_text c.slice.ensures.value

pub returns-in-Ok-clause-fits : goal.returns-in-Ok-clause-fits
returns-in-Ok-clause-fits c = subst FitRows c.slice.ensures.value c.in-Ok.ensures.fits
