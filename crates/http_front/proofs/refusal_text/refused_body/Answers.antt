use Rattle.std.proofs.Common.{false, ◌≡◌}
use Rattle.std.proofs.lemmas.Result.{IfOk-weaker}
use Rattle.serde_json.specs.View.{view}
use Rattle.serde_json.specs.Written.{compact_text, has_float}
use Rattle.http_front.specs.RefusalText.{refused_body}
use Rattle.http_front.proofs.ReplyLemmas.{refused_text}
use Rattle.http_front.proofs.refusal_text.refused_body.Goals as goal

pub returns : goal.returns
returns c = IfOk-weaker _
    (λ b. has_float (view c.in_ok-refused_value.field-0) ≡ false → b.items ≡ compact_text (view c.in_ok-refused_value.field-0))
    (λ b. b.items ≡ refused_body c.args.refusal.now)
    (λ b h. refused_text c.args.refusal.now (view c.in_ok-refused_value.field-0) b.items c.in_ok-refused_value.ensures h) c.to_vec.ensures.text
