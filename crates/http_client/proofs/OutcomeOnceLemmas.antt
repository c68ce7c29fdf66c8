-- A body tells one outcome of an order. The key lemmas are outcome_once and stood_once.
use Rattle.std.proofs.Common.{◌≡◌, ℕ, List, map, Option, None, Some, Ok, codes, refl, sym, ap, subst, ◌∙◌}
use Rattle.ids.proofs.BasicLemmas.{same_from_some}
use Rattle.httparse.specs.Grammar.{ResponseHead, status_code}
use Rattle.httparse.proofs.GrammarLemmas.{response_unique}
use Rattle.library_state.specs.declared.refusal.Refusal.{Refusal}
use Rattle.library_state.specs.declared.tag.Tag.{Tag}
use Rattle.http_front.specs.Fields.{found, values_of}
use Rattle.http_front.specs.Rows.{IsRowsOf}
use Rattle.http_front.specs.declared.order.What.{What}
use Rattle.http_front.specs.declared.order.What.TheVariants as what
use Rattle.http_front.specs.declared.outcome.Outcome.{Outcome}
use Rattle.http_front.specs.declared.outcome.Outcome.TheVariants.{Packed, Refused}
use Rattle.http_front.specs.declared.row.Row.{Row}
use Rattle.http_front.specs.declared.status.Status.{Status}
use Rattle.http_front.specs.declared.status.Status.TheVariants as status
use Rattle.http_client.specs.OrderOutcome.{row_id}
use Rattle.http_client.specs.OutcomeReading.{IsOutcome, IsPacked, IsRefusal, IsSuccess, TellsWhy}
use Rattle.http_client.specs.ReplyHead.{IsHeadAt, IsRight, fields_of, size_due}
use Rattle.http_client.specs.Response.{HasHead, front_of}
use Rattle.http_client.proofs.OutcomeLemmas.{same_rows}
use Rattle.http_client.proofs.RefusalLemmas.{answered_by}
use Rattle.http_client.proofs.StatusLemmas.{of_right}

-- ---- outcomes

record TellsRows (ids : List (List ℕ)) (body : List ℕ) (o : Outcome) : Type 0 where
  rows : List Row
  is : o ≡ Packed rows
  are : IsRowsOf body (Ok rows)
  named : map row_id rows ≡ ids

rows_in : (ids : List (List ℕ)) (body : List ℕ) (o : Outcome) → IsPacked ids body (Some o) → TellsRows ids body o
rows_in ids body (Packed rows) is = record { rows = rows; is = refl; are = is.0; named = is.1 }
rows_in ids body other is = absurd is

packed_once : (ids : List (List ℕ)) (body : List ℕ) (a b : Option Outcome) → IsPacked ids body a → IsPacked ids body b → a ≡ b
packed_once ids body None None is also = refl
packed_once ids body None (Some o) none is = let t = rows_in ids body o is in absurd (none t.rows t.are t.named)
packed_once ids body (Some o) None is none = let t = rows_in ids body o is in absurd (none t.rows t.are t.named)
packed_once ids body (Some o) (Some other) is also =
    let t = rows_in ids body o is in
    let u = rows_in ids body other also in
    ap Some (t.is ∙ ap Packed (same_rows body t.rows u.rows t.are u.are) ∙ sym u.is)

record TellsSome (order : What) (s : Status) (body : List ℕ) (o : Outcome) : Type 0 where
  why : Refusal
  is : o ≡ Refused why
  tells : TellsWhy order s body why

why_in : (order : What) (s : Status) (body : List ℕ) (o : Outcome) → IsRefusal order s body (Some o) → TellsSome order s body o
why_in order s body (Refused why) is = record { why = why; is = refl; tells = is }
why_in order s body other is = absurd is

refusal_once : (order : What) (s : Status) (body : List ℕ) (a b : Option Outcome) → IsRefusal order s body a → IsRefusal order s body b → a ≡ b
refusal_once order s body None None is also = refl
refusal_once order s body None (Some o) none is = let t = why_in order s body o is in absurd (none t.why t.tells)
refusal_once order s body (Some o) None is none = let t = why_in order s body o is in absurd (none t.why t.tells)
refusal_once order s body (Some o) (Some other) is also =
    let t = why_in order s body o is in
    let u = why_in order s body other also in
    ap Some t.is ∙ sym (answered_by order s body t.why t.tells) ∙ answered_by order s body u.why u.tells ∙ sym (ap Some u.is)

success_once : (order : What) (tag : Option Tag) (body : List ℕ) (a b : Option Outcome) → IsSuccess order tag body a → IsSuccess order tag body b → a ≡ b
success_once (what.GetFs ids) tag body a b is also = packed_once ids body a b is also
success_once other tag body a b is also = is ∙ sym also

pub outcome_once : (order : What) (s : Status) (tag : Option Tag) (body : List ℕ) (a b : Option Outcome) → IsOutcome order s tag body a → IsOutcome order s tag body b → a ≡ b
outcome_once order status.Success tag body a b is also = success_once order tag body a b is also
outcome_once order status.NotModified tag body a b is also = is ∙ sym also
outcome_once order other tag body a b is also = refusal_once order other body a b is also

-- ---- heads

pub head_once : (front : List ℕ) (h k : ResponseHead) (r q : List ℕ) → IsHeadAt front h r → IsHeadAt front k q → h ≡ k
head_once front h k r q is also = (response_unique front h k r q is.reads also.reads).0

-- a right head has one status and one length
right_once : (order : What) (h : ResponseHead) (s t : Status) (n m : ℕ) → IsRight order h s n → IsRight order h t m → (s ≡ t) × (n ≡ m)
right_once order h s t n m is also =
    let code = status_code h in
    let fields = fields_of h in
    let same : s ≡ t = same_from_some s t (sym (of_right order code fields s n is) ∙ of_right order code fields t m also) in
    let one : size_due s (found (values_of (codes "content-length") fields)) ≡ Some m =
    subst (λ (x : Status). size_due x (found (values_of (codes "content-length") fields)) ≡ Some m) (sym same) also.size_is in
    (same, same_from_some n m (sym is.size_is ∙ one))

pub record StandsOnce (h k : ResponseHead) (s t : Status) (n m : ℕ) : Type 0 where
  pub head : h ≡ k
  pub status_is : s ≡ t
  pub size : n ≡ m

pub stood_once : (order : What) (buffer : List ℕ) (h k : ResponseHead) (s t : Status) (n m : ℕ) → HasHead order buffer h s n → HasHead order buffer k t m
    → StandsOnce h k s t n m
stood_once order buffer h k s t n m is also =
    let same = head_once (front_of buffer) h k is.rest also.rest is.at also.at in
    let one = right_once order h s t n m is.right (subst (λ (x : ResponseHead). IsRight order x t m) (sym same) also.right) in
    record { head = same; status_is = one.0; size = one.1 }
