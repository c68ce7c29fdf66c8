-- What is left to read is what was left as the call began, and of what is there so much was looked at.
use Rattle.std.proofs.Common.{◌≡◌, ◌-◌, length}
use Rattle.http_front.specs.Buffer.{to_read}
use Rattle.http_front.specs.Limits.{head_limit}
use Rattle.http_front.specs.Link.{told_by}
use Rattle.worker_server.specs.RequestSteps.{BeginsBlank, IsScanned, ReadsOn, StillComes, WantsHead}
use Rattle.worker_server.proofs.reading.read_head.Given as goal

abbrev pub invariant-loop-now : goal.invariant-loop-now
invariant-loop-now g l = record {
  same : to_read l.buffer (g.L.Link.left l.link) ≡ to_read l.fn.buffer (g.L.Link.left l.fn.link);
  reads : ReadsOn ⊥ WantsHead l.fn.buffer l.buffer (told_by g.L.Link.taken g.L.Link.given g.L.Link.asked l.fn.link) (told_by g.L.Link.taken g.L.Link.given g.L.Link.asked l.link);
  faults : g.L.Link.faults l.link ≡ g.L.Link.faults l.fn.link;
  scanned : IsScanned l.seen l.known l.buffer;
  blank : BeginsBlank l.blank l.buffer;
  came : StillComes (told_by g.L.Link.taken g.L.Link.given g.L.Link.asked l.fn.link) (told_by g.L.Link.taken g.L.Link.given g.L.Link.asked l.link) (g.L.Link.left l.fn.link) (g.L.Link.left l.link);
}

abbrev pub decreases-loop-now : goal.decreases-loop-now
decreases-loop-now g l = head_limit - length l.buffer
