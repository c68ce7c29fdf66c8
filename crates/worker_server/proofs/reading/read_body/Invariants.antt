-- The buffer has grown at its end, by what the link gave.
use Rattle.std.proofs.Common.{◌≡◌, ◌+◌, ◌-◌, ◌≤◌, length}
use Rattle.http_front.specs.Buffer.{to_read}
use Rattle.http_front.specs.Link.{told_by}
use Rattle.worker_server.specs.RequestSteps.{ReadsOn, StillComes, WantsBytes}
use Rattle.worker_server.proofs.reading.read_body.Given as goal

abbrev pub invariant-loop-link : goal.invariant-loop-link
invariant-loop-link g l = record {
  fits : l.used ≤ length l.buffer;
  same : to_read l.buffer (g.L.Link.left l.link) ≡ to_read l.fn.buffer (g.L.Link.left l.fn.link);
  reads : ReadsOn ⊥ (WantsBytes (l.used + l.body)) l.fn.buffer l.buffer (told_by g.L.Link.taken g.L.Link.given g.L.Link.asked l.fn.link) (told_by g.L.Link.taken g.L.Link.given g.L.Link.asked l.link);
  faults : g.L.Link.faults l.link ≡ g.L.Link.faults l.fn.link;
  came : StillComes (told_by g.L.Link.taken g.L.Link.given g.L.Link.asked l.fn.link) (told_by g.L.Link.taken g.L.Link.given g.L.Link.asked l.link) (g.L.Link.left l.fn.link) (g.L.Link.left l.link);
}

abbrev pub decreases-loop-link : goal.decreases-loop-link
decreases-loop-link g l = (l.used + l.body) - length l.buffer
