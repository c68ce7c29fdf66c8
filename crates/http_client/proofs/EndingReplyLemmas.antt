-- The reply by which a server ends a connection is none to any order: its reason is of no refusal. The key lemma is ending_none.
use Rattle.std.proofs.Common.{◌≡◌, ℕ, ◌+◌, ◌^◌, ◌<◌, ◌==◌, Bool, true, false, if◌then◌else◌, List, ◌++◌, length, refl, sym, ap, subst, ◌∙◌, arith, lit<, lit≤, length-append, None, Some, codes}
use Rattle.std.proofs.lemmas.Bool.{true≢false}
use Rattle.json.specs.Print.{escape_byte}
use Rattle.json_words.specs.Fields.{text_field}
use Rattle.json_words.specs.JsonText.{json_of}
use Rattle.json_words.proofs.WrittenLemmas.{IsUtf8-are_ascii, json_of-compact_text}
use Rattle.http_front.specs.RefusalText.{reason_data}
use Rattle.http_front.specs.ReplyText.{Parts, bad_body, bad_parts, bad_text, json_parts, written}
use Rattle.http_front.specs.declared.order.What.{What}
use Rattle.http_front.specs.declared.status.Status.{Status}
use Rattle.http_front.specs.declared.status.Status.TheVariants as status
use Rattle.http_client.specs.OutcomeReading.{IsOutcome, IsRefusal}
use Rattle.http_client.specs.RefusalWords.{refusal_in}
use Rattle.http_client.specs.ReplyHead.{tag_due}
use Rattle.http_client.specs.Response.{IsBad}
use Rattle.http_client.proofs.RefusalLemmas.{refusal-found}
use Rattle.http_client.proofs.ReplyReadLemmas.{IsType, head_written}
use Rattle.http_client.proofs.WrittenReplyLemmas.{HasDue, has_body, reply_head, tag_so}

-- ---- the reasons

-- what tells no refusal
no_refusal : (order : What) (s : Status) (reason : List ℕ) → json_of (bad_body reason) ≡ Some (reason_data reason) → refusal_in (reason_data reason) ≡ None
    → IsRefusal order s (bad_body reason) None
no_refusal order s reason read none = λ why tells.
    let same : tells.value ≡ reason_data reason = some_same (sym tells.is_text ∙ read) in
    let found = refusal-found tells.value order why tells.can tells.tells in
    absurd (none_some (sym none ∙ ap refusal_in (sym same) ∙ found))
  where
    some_same : {A : Type 0} {x y : A} → Some x ≡ Some y → x ≡ y
    some_same e = cc

    none_some : {A : Type 0} {x : A} → None ≡ Some x → ⊥
    none_some e = absurd (cc)

malformed : (order : What) → IsOutcome order status.BadRequest None (bad_body (codes "malformed")) None
unfolding refusal_in text_field
malformed order =
    no_refusal order status.BadRequest (codes "malformed")
    (json_of-compact_text (reason_data (codes "malformed")) (IsUtf8-are_ascii (codes "reason") refl, IsUtf8-are_ascii (codes "malformed") refl, refl, tt) (lit≤ tt)) refl

body_too_large : (order : What) → IsOutcome order status.ContentTooLarge None (bad_body (codes "body-too-large")) None
unfolding refusal_in text_field
body_too_large order =
    no_refusal order status.ContentTooLarge (codes "body-too-large")
    (json_of-compact_text (reason_data (codes "body-too-large")) (IsUtf8-are_ascii (codes "reason") refl, IsUtf8-are_ascii (codes "body-too-large") refl, refl, tt) (lit≤ tt)) refl

head_too_large : (order : What) → IsOutcome order status.HeadTooLarge None (bad_body (codes "head-too-large")) None
unfolding refusal_in text_field
head_too_large order =
    no_refusal order status.HeadTooLarge (codes "head-too-large")
    (json_of-compact_text (reason_data (codes "head-too-large")) (IsUtf8-are_ascii (codes "reason") refl, IsUtf8-are_ascii (codes "head-too-large") refl, refl, tt) (lit≤ tt)) refl

coding : (order : What) → IsOutcome order status.NotImplemented None (bad_body (codes "coding")) None
unfolding refusal_in text_field
coding order =
    no_refusal order status.NotImplemented (codes "coding")
    (json_of-compact_text (reason_data (codes "coding")) (IsUtf8-are_ascii (codes "reason") refl, IsUtf8-are_ascii (codes "coding") refl, refl, tt) (lit≤ tt)) refl

-- ---- the whole reply

-- no reply stands at the front, from the end of the head on
abbrev pub IsNoReply : What → Parts → List ℕ → Type 0
IsNoReply order parts rest = (at : ℕ) × (at + length parts.body ≡ length (written parts true)) × IsBad order (written parts true ++ rest) at

none_by : (order : What) (s : Status) (body rest : List ℕ) → has_body s ≡ true → tag_due order s ≡ false → length body < 10 ^ 19 → length body < 2 ^ 64
    → IsOutcome order s None body None → IsNoReply order (json_parts s body) rest
none_by order s body rest has none_due small fits tells =
    let empty = (length body == 0) in
    let head = reply_head s empty (codes "application/json") (length body) None true in
    let due : HasDue (tag_due order s) None = subst (λ (b : Bool). HasDue b None) (sym none_due) tt in
    let is = head_written order s (codes "application/json") body rest None true IsType.json (λ none. absurd (true≢false (sym has ∙ none))) tt due small fits in
    let whole = written (json_parts s body) true in (
      _,
      sym is.long,
      IsBad.in_body head s (length body) None is.has (tag_so empty (has_body s) (codes "application/json") (length body) None true tt)
          (omega (arith, is.long, length-append whole rest)) (subst (λ (b : List ℕ). IsOutcome order s None b None) (sym is.behind) tells) refl,
    )

pub ending_none : (order : What) (number : ℕ) (rest : List ℕ) → (at : ℕ) × (at + length (bad_parts number).body ≡ length (bad_text number)) × IsBad order (bad_text number ++ rest) at
unfolding bad_text escape_byte
ending_none order number rest = by (number == 400) (number == 413) (number == 431)
  where
    by : (b c d : Bool) → IsNoReply order (if b then json_parts status.BadRequest (bad_body (codes "malformed")) else if c then json_parts status.ContentTooLarge (bad_body (codes "body-too-large"))
        else if d then json_parts status.HeadTooLarge (bad_body (codes "head-too-large")) else json_parts status.NotImplemented (bad_body (codes "coding"))) rest
    by true c d = none_by order status.BadRequest _ rest refl refl (lit< tt) (lit< tt) (malformed order)
    by false true d = none_by order status.ContentTooLarge _ rest refl refl (lit< tt) (lit< tt) (body_too_large order)
    by false false true = none_by order status.HeadTooLarge _ rest refl refl (lit< tt) (lit< tt) (head_too_large order)
    by false false false = none_by order status.NotImplemented _ rest refl refl (lit< tt) (lit< tt) (coding order)
