-- What the link was asked last, as the buffer was filled.
use Rattle.std.proofs.Common.{Err, ap}
use Rattle.worker_server.proofs.AskedLemmas.{came_fill, failed_fill}
use Rattle.worker_server.proofs.reading.fill.Goals as goal

pub returns-in-Ok-clause-last : goal.returns-in-Ok-clause-last
returns-in-Ok-clause-last g c = came_fill _ _ c.in-Ok.count _ _ _ _ c.in-Ok.ensures.fills c.in-Ok.ensures.value c.in-Ok.ensures.end

pub returns-in-Err-Link-clause-last : goal.returns-in-Err-Link-clause-last
returns-in-Err-Link-clause-last g c = failed_fill _ _ _ (c.in-Err-Link.ensures.last (ap Err c.in-Err-Link.field-0-is))
