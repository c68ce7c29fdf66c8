-- A take that failed was the last thing that the link was asked.
use Rattle.http_front.proofs.buffer.Buffer.fill.Goals as goal

pub returns-in-Err-clause-last : goal.returns-in-Err-clause-last
returns-in-Err-clause-last g c = λ failed. (c.in-Err.ensures.err_taken, c.in-Err.ensures.stays, c.in-Err.ensures.asked)
