use Rattle.std.proofs.Common.{◌≡◌, false}
use Rattle.std.proofs.lemmas.Result.{IfOk-weaker}
use Rattle.serde_json.specs.View.{view}
use Rattle.serde_json.specs.Written.{compact_text, has_float}
use Rattle.http_front.specs.IdArray.{array_text}
use Rattle.http_front.proofs.ReplyLemmas.{ids_text}
use Rattle.http_front.proofs.id_array.array_bytes.Goals as goal

pub returns : goal.returns
returns c = record {
  value = IfOk-weaker _
      (λ b. has_float (view c.array_of.result) ≡ false → b.items ≡ compact_text (view c.array_of.result))
      (λ b. b.items ≡ array_text c.args.ids.now)
      (λ b h. ids_text c.args.ids.now c.in_ok-values.values.items (view c.array_of.result) b.items c.array_of.ensures.value c.in_ok-values.ensures.value h) c.text_of_value.ensures.value;
}
