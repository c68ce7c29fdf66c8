-- From the spans of a reply's head to the head of the grammar that they cover. The key lemma is seen_by.
use Rattle.std.proofs.Common.{◌≡◌, ◌≤◌, ℕ, List, length, take, drop, sym, ap, subst, subst₂, ◌∙◌, arith}
use Rattle.httparse.specs.Grammar.{ResponseHead}
use Rattle.httparse.specs.Spans.{IsResponseAt}
use Rattle.httparse.specs.declared.spans.HeaderSpan.{HeaderSpan}
use Rattle.httparse.specs.declared.spans.ResponseSpans.{ResponseSpans}
use Rattle.http_front.specs.Fields.{FieldList, fields_at}
use Rattle.http_front.specs.NextHead.{IsTagIn}
use Rattle.http_front.specs.RequestHead.{wants_close}
use Rattle.http_front.specs.declared.order.What.{What}
use Rattle.http_front.proofs.HeadLemmas.{few_fields}
use Rattle.http_client.specs.HeadReading.{IsJudgedBy, IsSeen}
use Rattle.http_client.specs.ReplyHead.{tag_field}
use Rattle.http_client.specs.declared.reply_head.SeenHead.{SeenHead}

pub seen_by : (order : What) (front : List ℕ) (headers : List HeaderSpan) (spans : ResponseSpans) (seen : SeenHead) (head : ResponseHead)
    → IsResponseAt front headers spans head → spans.version ≡ 1 → length (take spans.headers headers) ≤ 64 → spans.len ≤ length front
    → seen.size ≡ spans.len → IsJudgedBy order spans.code (fields_at front (take spans.headers headers)) seen.told
    → IsTagIn (tag_field (fields_at front (take spans.headers headers))) seen.tag
    → seen.closes ≡ wants_close (fields_at front (take spans.headers headers)) → IsSeen order front seen
seen_by order front headers spans seen head at newest few inside size told tag closes = record {
  head = head;
  rest = drop spans.len front;
  at = record { reads = at.reads; newest = sym at.version ∙ newest; few = few_fields front (take spans.headers headers) head.fields at.fields few };
  size = size ∙ at.len;
  inside = omega (arith, inside, size);
  told = subst₂ (λ (code : ℕ) (fields : FieldList). IsJudgedBy order code fields seen.told) at.code at.fields told;
  tag_is = subst (λ (fields : FieldList). IsTagIn (tag_field fields) seen.tag) at.fields tag;
  closes_is = closes ∙ ap wants_close at.fields;
}
