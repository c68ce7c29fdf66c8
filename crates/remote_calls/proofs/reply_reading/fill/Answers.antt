-- A take that failed was the last thing that the link was asked.
use Rattle.std.proofs.Common.{Err, ap}
use Rattle.remote_calls.proofs.reply_reading.fill.Goals as goal

pub returns-in-Err-Link-clause-last : goal.returns-in-Err-Link-clause-last
returns-in-Err-Link-clause-last g c = c.in-Err-Link.ensures.last (ap Err c.in-Err-Link.field-0-is)
