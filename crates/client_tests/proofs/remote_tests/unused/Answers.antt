-- A link in memory that was just made was not used.
use Rattle.std.proofs.Common.{ap}
use Rattle.http_front.specs.MemoryLink.{MemoryLinkState}
use Rattle.client_tests.proofs.remote_tests.unused.Goals as goal

pub returns : goal.returns
returns c = record {
  new = record {
    taken = ap (λ (l : MemoryLinkState). l.taken) c.in_ok-link.ensures;
    given = ap (λ (l : MemoryLinkState). l.given) c.in_ok-link.ensures;
    asked = ap (λ (l : MemoryLinkState). l.asked) c.in_ok-link.ensures;
    faults = ap (λ (l : MemoryLinkState). l.faults) c.in_ok-link.ensures;
  };
}
