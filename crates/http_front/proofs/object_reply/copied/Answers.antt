-- The bytes that were copied are those of the object.
use Rattle.std.proofs.Common.{ℕ, List, ap, ◌∙◌}
use Rattle.http_front.specs.ReplyText.{octet_parts, written}
use Rattle.http_front.proofs.object_reply.copied.Goals as goal

pub returns-in-Ok : goal.returns-in-Ok
returns-in-Ok c = record {
  value = c.whole.ensures.value ∙ c.in-Ok.ensures.value ∙ ap (λ (body : List ℕ). written (octet_parts body) c.args.closes) c.slice.ensures.value;
}
