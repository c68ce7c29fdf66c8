-- What was read is served as such; what was not has no call.
use Rattle.std.proofs.Common.{[]}
use Rattle.worker_server.proofs.CallLemmas.{Serves-from_fault, Serves-from_order}
use Rattle.worker_server.specs.Calls.{rules_at}
use Rattle.worker_server.proofs.answering.outcome_of.Goals as goal

pub returns-in-Ok-clause-serves : goal.returns-in-Ok-clause-serves
returns-in-Ok-clause-serves g c =
    let served = c.answer_order.ensures.serves in
    (served.0, Serves-from_order (rules_at (g.H.Host.shows c.args.host.now) g.H.Host.asks g.H.Host.spares g.H.Host.collects g.H.Host.looks) _ _ c.in-Ok.order _ _ _ c.in-Ok.ensures.value served.1)

pub returns-in-Err-clause-serves : goal.returns-in-Err-clause-serves
returns-in-Err-clause-serves g c = rw c.refusal_of.ensures ([], Serves-from_fault (rules_at (g.H.Host.shows c.args.host.now) g.H.Host.asks g.H.Host.spares g.H.Host.collects g.H.Host.looks) _ _ c.in-Err.fault c.in-Err.ensures.value)
