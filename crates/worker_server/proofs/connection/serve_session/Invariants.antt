-- So many requests were answered, and none of them closed the connection.
use Rattle.std.proofs.Common.{◌≡◌, ℕ, List, Some}
use Rattle.http_front.specs.Buffer.{to_read}
use Rattle.http_front.specs.Link.{told_by}
use Rattle.worker_server.specs.Calls.{Told, Ran, rules_at}
use Rattle.worker_server.specs.ServedConnection.{CameLast}
use Rattle.worker_server.proofs.SessionLemmas.{SoFar}
use Rattle.worker_server.proofs.connection.serve_session.Given as goal

abbrev pub invariant-loop-number : goal.invariant-loop-number
invariant-loop-number g l = record {
  ready : g.H.Host.ready l.host l.pass;
  so_far : (input : List ℕ) → g.L.Link.left l.fn.link ≡ Some input
      → SoFar (rules_at (g.H.Host.shows l.host) g.H.Host.asks g.H.Host.spares g.H.Host.collects g.H.Host.looks) l.number input l.buffer (told_by g.L.Link.taken g.L.Link.given g.L.Link.asked l.fn.link) (told_by g.L.Link.taken g.L.Link.given g.L.Link.asked l.link)
      (to_read l.buffer (g.L.Link.left l.link)) (g.H.Host.view l.fn.pass) (g.H.Host.view l.pass);
  ran : (calls : List (Told g.H.Host.Operation)) × Ran (rules_at (g.H.Host.shows l.host) g.H.Host.asks g.H.Host.spares g.H.Host.collects g.H.Host.looks) (g.H.Host.view l.fn.pass) calls (g.H.Host.view l.pass);
  faults : g.L.Link.faults l.link ≡ g.L.Link.faults l.fn.link;
  came : CameLast (told_by g.L.Link.taken g.L.Link.given g.L.Link.asked l.fn.link) (told_by g.L.Link.taken g.L.Link.given g.L.Link.asked l.link) (g.L.Link.left l.link);
}
