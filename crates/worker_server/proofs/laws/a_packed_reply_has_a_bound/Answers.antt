use Rattle.std.proofs.Common.{subst}
use Rattle.http_front.specs.declared.outcome.Outcome.{Outcome}
use Rattle.worker_server.specs.Calls.{Serves, rules_at}
use Rattle.worker_server.specs.ServedConnection.{IsOrderFor}
use Rattle.worker_server.proofs.CallLemmas.{Serves-fits}
use Rattle.worker_server.proofs.laws.a_packed_reply_has_a_bound.Goals as goal

pub returns : goal.returns
returns g c = λ host u v exchange rows answers packed.
    let rules = rules_at (g.H.Host.shows host) g.H.Host.asks g.H.Host.spares g.H.Host.collects g.H.Host.looks in
    Serves-fits rules u _ rows exchange.operations v
    (subst (λ (o : Outcome). Serves rules u (IsOrderFor exchange.request answers.0 answers.2) o exchange.operations v) packed answers.4)
