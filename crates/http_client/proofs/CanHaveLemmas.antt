-- What is read as an order's outcome is one that the order can have. The key lemma is outcome_can.
use Rattle.std.proofs.Common.{◌≡◌, ℕ, ◌==◌, Bool, true, false, if◌then◌else◌, List, length, Option, None, Some, codes, refl, sym, subst, option_map}
use Rattle.std.specs.Option.{option_and_then}
use Rattle.ids.proofs.BasicLemmas.{same_from_some}
use Rattle.serde_json.specs.Data.{Data}
use Rattle.json_words.specs.JsonText.{json_of}
use Rattle.library_state.specs.declared.reply.Reply.{Reply}
use Rattle.library_state.specs.declared.reply.Reply.TheVariants as reply
use Rattle.library_state.specs.declared.tag.Tag.{Tag}
use Rattle.http_front.specs.declared.order.What.{What}
use Rattle.http_front.specs.declared.order.What.TheVariants as what
use Rattle.http_front.specs.declared.outcome.Outcome.{Outcome}
use Rattle.http_front.specs.declared.outcome.Outcome.TheVariants.{Version, Same, Plain, Packed, Collected, Refused}
use Rattle.http_front.specs.declared.status.Status.{Status}
use Rattle.http_front.specs.declared.status.Status.TheVariants as status
use Rattle.http_client.specs.OrderOutcome.{CanAnswer, CanHave, are_among}
use Rattle.http_client.specs.OutcomeReading.{IsOutcome, IsPacked, IsRefusal, IsSuccess, absent_of, answered, collected_in, head_in, ids_in, if_empty, same_told, state_told, told_in, version_in}
use Rattle.http_client.specs.RefusalWords.{number_at}

refusal_can : (order : What) (s : Status) (body : List ℕ) (o : Outcome) → IsRefusal order s body (Some o) → CanHave order o
refusal_can order s body Version is = absurd is
refusal_can order s body (Same tag) is = absurd is
refusal_can order s body (Plain told tag) is = absurd is
refusal_can order s body (Packed rows) is = absurd is
refusal_can order s body (Collected number removed) is = absurd is
refusal_can order s body (Refused why) is = is.can

packed_can : (ids : List (List ℕ)) (body : List ℕ) (o : Outcome) → IsPacked ids body (Some o) → CanHave (what.GetFs ids) o
packed_can ids body Version is = absurd is
packed_can ids body (Same tag) is = absurd is
packed_can ids body (Plain told tag) is = absurd is
packed_can ids body (Packed rows) is = is.1
packed_can ids body (Collected number removed) is = absurd is
packed_can ids body (Refused why) is = absurd is

module _ (order : What) (o : Outcome) where
  by_answer : (told : Outcome) → CanHave order told → Some o ≡ Some told → CanHave order o
  by_answer told can e = subst (CanHave order) (sym (same_from_some o told e)) can

  empty_can : (body : List ℕ) (told : Reply) → CanAnswer order told → Some o ≡ if_empty body told → CanHave order o
  empty_can body told can e = by (length body == 0) e
    where
      by : (b : Bool) → Some o ≡ (if b then Some (answered told) else None) → CanHave order o
      by true e = by_answer (answered told) can e
      by false e = absurd (cc)

  mapped_can : {A : Type 0} (f : A → Outcome) → ((a : A) → CanHave order (f a)) → (x : Option A) → Some o ≡ option_map f x → CanHave order o
  mapped_can f can None e = absurd (cc)
  mapped_can f can (Some a) e = by_answer (f a) (can a) e

  -- where a library stands, beside the tag that is there
  state_can : (says : List ℕ → Reply) → ((id : List ℕ) (tag : Tag) → CanAnswer order (says id)) → (tag : Option Tag) (x : Option (List ℕ)) → Some o ≡ state_told says tag x → CanHave order o
  state_can says can None x e = absurd (cc)
  state_can says can (Some tag) x e = mapped_can (λ i. Plain (says i) tag) (λ i. can i tag) x e

version_can : (o : Outcome) (x : Option Data) → Some o ≡ option_and_then version_in x → CanHave what.Version o
version_can o None e = absurd (cc)
version_can o (Some d) e = by_number (number_at (codes "version") d) e
  where
    by : (b : Bool) → Some o ≡ (if b then Some Version else None) → CanHave what.Version o
    by true e = by_answer what.Version o Version refl e
    by false e = absurd (cc)

    by_number : (n : Option ℕ) → Some o ≡ option_and_then (λ version. if version == 2 then Some Version else None) n → CanHave what.Version o
    by_number None e = absurd (cc)
    by_number (Some n) e = by (n == 2) e

collected_can : (o : Outcome) (x : Option Data) → Some o ≡ option_and_then collected_in x → CanHave what.Collect o
collected_can o None e = absurd (cc)
collected_can o (Some d) e = by_number (number_at (codes "collection") d) e
  where
    by_number : (n : Option ℕ) → Some o ≡ option_and_then (λ count. option_map (Collected count) (number_at (codes "removed") d)) n → CanHave what.Collect o
    by_number None e = absurd (cc)
    by_number (Some count) e = mapped_can what.Collect o (Collected count) (λ removed. refl) (number_at (codes "removed") d) e

absent_can : (kind : _) (asked : List (List ℕ)) (o : Outcome) (ids : Option (List (List ℕ))) → Some o ≡ absent_of asked ids → CanHave (what.Missing kind asked) o
absent_can kind asked o None e = absurd (cc)
absent_can kind asked o (Some ids) e = by (are_among asked ids) refl e
  where
    by : (b : Bool) → are_among asked ids ≡ b → Some o ≡ (if b then Some (answered (reply.Absent ids)) else None) → CanHave (what.Missing kind asked) o
    by true is e = by_answer (what.Missing kind asked) o (answered (reply.Absent ids)) is e
    by false is e = absurd (cc)

success_can : (order : What) (tag : Option Tag) (body : List ℕ) (o : Outcome) → IsSuccess order tag body (Some o) → CanHave order o
success_can what.Version tag body o is = version_can o (json_of body) is
success_can (what.Check op) tag body o is = empty_can (what.Check op) o body reply.Checked refl is
success_can (what.Head asked) tag body o is = state_can (what.Head asked) o reply.HeadIs (λ id t. refl) tag (told_in head_in body) is
success_can (what.Update commit) tag body o is = state_can (what.Update commit) o reply.Updated (λ id t. refl) tag (told_in head_in body) is
success_can (what.Get key) tag body o is = by_answer (what.Get key) o (answered (reply.Got body)) refl is
success_can (what.Put key bytes) tag body o is = empty_can (what.Put key bytes) o body (reply.Stored true) refl is
success_can (what.Missing kind ids) tag body o is = absent_can kind ids o (ids_in body) is
success_can (what.PutFs rows) tag body o is = empty_can (what.PutFs rows) o body (reply.Stored true) refl is
success_can (what.GetFs ids) tag body o is = packed_can ids body o is
success_can (what.Ids server client) tag body o is = mapped_can (what.Ids server client) o (λ ids. answered (reply.Listed ids)) (λ ids. refl) (ids_in body) is
success_can (what.Limit days) tag body o is = empty_can (what.Limit days) o body reply.Limited refl is
success_can what.Collect tag body o is = collected_can o (json_of body) is

same_can : (order : What) (tag : Option Tag) (o : Outcome) → Some o ≡ same_told order tag → CanHave order o
same_can (what.Head None) tag o e = absurd (cc)
same_can (what.Head (Some asked)) tag o e = mapped_can (what.Head (Some asked)) o Same (λ t. tt) tag e
same_can other tag o e = absurd (cc)

pub outcome_can : (order : What) (s : Status) (tag : Option Tag) (body : List ℕ) (o : Outcome) → IsOutcome order s tag body (Some o) → CanHave order o
outcome_can order status.Success tag body o is = success_can order tag body o is
outcome_can order status.NotModified tag body o is = same_can order tag o is
outcome_can order status.BadRequest tag body o is = refusal_can order status.BadRequest body o is
outcome_can order status.Forbidden tag body o is = refusal_can order status.Forbidden body o is
outcome_can order status.NotFound tag body o is = refusal_can order status.NotFound body o is
outcome_can order status.Conflict tag body o is = refusal_can order status.Conflict body o is
outcome_can order status.ContentTooLarge tag body o is = refusal_can order status.ContentTooLarge body o is
outcome_can order status.HeadTooLarge tag body o is = refusal_can order status.HeadTooLarge body o is
outcome_can order status.TooLarge tag body o is = refusal_can order status.TooLarge body o is
outcome_can order status.Damaged tag body o is = refusal_can order status.Damaged body o is
outcome_can order status.Incomplete tag body o is = refusal_can order status.Incomplete body o is
outcome_can order status.Spent tag body o is = refusal_can order status.Spent body o is
outcome_can order status.ServerError tag body o is = refusal_can order status.ServerError body o is
outcome_can order status.NotImplemented tag body o is = refusal_can order status.NotImplemented body o is
outcome_can order status.Unavailable tag body o is = refusal_can order status.Unavailable body o is
