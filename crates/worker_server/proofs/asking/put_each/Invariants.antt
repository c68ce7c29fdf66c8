-- What was put so far, and then what is left, make the whole.
use Rattle.std.proofs.Common.{List, length, reverse}
use Rattle.http_front.specs.declared.outcome.Outcome.{Outcome}
use Rattle.worker_server.specs.Calls.{AtAMoment, PutsEach}
use Rattle.worker_server.proofs.asking.put_each.Given as goal

abbrev pub invariant-loop-row : goal.invariant-loop-row
invariant-loop-row g l = record {
  is_ready : g.H.Host.ready l.host l.pass;
  goes_on : (o : Outcome) (more : List g.H.Host.Operation) (v : g.H.Host.View) → PutsEach (AtAMoment (g.H.Host.shows l.host) g.H.Host.asks) l.lib l.secret (g.H.Host.view l.pass) (reverse l.left.items) o more v
      → (operations : List g.H.Host.Operation) × PutsEach (AtAMoment (g.H.Host.shows l.host) g.H.Host.asks) l.fn.lib l.fn.secret (g.H.Host.view l.fn.pass) l.fn.rows o operations v;
}

abbrev pub decreases-loop-row : goal.decreases-loop-row
decreases-loop-row g l = length l.left.items
