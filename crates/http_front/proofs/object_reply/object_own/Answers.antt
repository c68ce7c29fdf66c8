-- The front is that of a body of as many bytes as the object has, which follows it.
use Rattle.std.proofs.Common.{ℕ, List, ◌++◌, None, codes, ap, ◌∙◌}
use Rattle.http_front.specs.ReplyText.{reply_front, written}
use Rattle.http_front.specs.declared.status.Status.TheVariants.{Success}
use Rattle.http_front.proofs.object_reply.object_own.Goals as goal

pub returns-in-Ok : goal.returns-in-Ok
unfolding written
returns-in-Ok c = record {
  value = ap (λ (front : List ℕ). front ++ c.args.bytes)
      (c.in-Ok.ensures.value ∙ ap (λ (size : ℕ). reply_front Success (codes "application/octet-stream") None size c.args.closes) c.len-size.ensures.value);
}
