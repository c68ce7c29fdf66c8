use Rattle.worker_server.specs.Calls.{rules_at}
use Rattle.worker_server.proofs.OperationLemmas.{Run-leaves}
use Rattle.worker_server.proofs.laws.the_operations_of_requests_are_those_of_their_calls.Goals as goal

pub returns : goal.returns
returns g c = λ host u v exchanges run.
    Run-leaves (rules_at (g.H.Host.shows host) g.H.Host.asks g.H.Host.spares g.H.Host.collects g.H.Host.looks) u exchanges v run
