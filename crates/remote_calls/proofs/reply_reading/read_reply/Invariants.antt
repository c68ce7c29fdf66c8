-- The buffer has grown at its end by what the link gave, each piece after bytes that are the beginning of a reply.
use Rattle.std.proofs.Common.{◌≡◌, ◌-◌, ◌^◌, length}
use Rattle.http_front.specs.Buffer.{to_read}
use Rattle.http_front.specs.Link.{told_by}
use Rattle.http_client.specs.Response.{IsCut}
use Rattle.worker_server.specs.RequestSteps.{ReadsOn}
use Rattle.remote_calls.proofs.reply_reading.read_reply.Given as goal

abbrev pub invariant-loop-reply : goal.invariant-loop-reply
invariant-loop-reply g l = record {
  same : to_read l.buffer (g.L.Link.left l.link) ≡ to_read l.fn.buffer (g.L.Link.left l.fn.link);
  reads : ReadsOn ⊥ (IsCut l.order.what) l.fn.buffer l.buffer (told_by g.L.Link.taken g.L.Link.given g.L.Link.asked l.fn.link) (told_by g.L.Link.taken g.L.Link.given g.L.Link.asked l.link);
  faults : g.L.Link.faults l.link ≡ g.L.Link.faults l.fn.link;
}

abbrev pub decreases-loop-reply : goal.decreases-loop-reply
decreases-loop-reply g l = 2 ^ 64 - length l.buffer
