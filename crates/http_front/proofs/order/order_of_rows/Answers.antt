-- The order of the rows, or the fault of the body.
use Rattle.std.proofs.Common.{Ok, refl}
use Rattle.http_front.proofs.OrderLemmas.{rows_refused}
use Rattle.http_front.proofs.order.order_of_rows.Goals as goal

pub returns-in-Ok : goal.returns-in-Ok
returns-in-Ok c = rw c.asked_of.ensures (Ok c.in-Ok.rows, c.in-Ok.ensures.value, refl)

pub returns-in-Err : goal.returns-in-Err
returns-in-Err c = rw c.body_fault.ensures (rows_refused c.args.lib c.args.secret c.args.body.now c.in-Err.fault c.in-Err.ensures.value)
