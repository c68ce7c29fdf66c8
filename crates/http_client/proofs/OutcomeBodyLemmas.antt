-- The tag and the body that a server writes for an outcome are read as the outcome. The key lemma is outcome_read.
use Rattle.std.proofs.Common.{◌≡◌, ℕ, ◌^◌, ◌<◌, ◌==◌, true, if◌then◌else◌, List, [], All, Option, None, Some, codes, refl, sym, ap, ap₂, ◌∙◌, lit≤, lit<, option_map}
use Rattle.std.specs.Option.{option_and_then}
use Rattle.std.specs.Result.{result_ok}
use Rattle.std.proofs.lemmas.Bool.{false≢true}
use Rattle.json_words.proofs.WrittenLemmas.{IsUtf8-are_ascii, json_of-compact_text}
use Rattle.library_state.specs.declared.reply.Reply.TheVariants as reply
use Rattle.library_state.specs.declared.tag.Tag.{Tag}
use Rattle.http_front.specs.CallQuery.{IsObjectId}
use Rattle.http_front.specs.IdArray.{array_text}
use Rattle.http_front.specs.ReplyBody.{collected_body, collected_data, head_body, head_data, version_body, version_data}
use Rattle.http_front.specs.ReplyText.{parts_of}
use Rattle.http_front.specs.Rows.{IsRow, rows_text}
use Rattle.http_front.specs.declared.order.What.{What}
use Rattle.http_front.specs.declared.order.What.TheVariants as what
use Rattle.http_front.specs.declared.outcome.Outcome.{Outcome}
use Rattle.http_front.specs.declared.outcome.Outcome.TheVariants.{Version, Same, Plain, Packed, Collected, Refused}
use Rattle.http_front.specs.declared.row.Row.{Row}
use Rattle.http_front.specs.declared.status.Status.TheVariants.{Success, NotModified}
use Rattle.http_client.specs.OrderOutcome.{CanHave, CanMiss, CanPack, NamesTag, asks_collection, asks_head, asks_list, asks_object, asks_right, asks_version, is_limit, is_update, stores}
use Rattle.http_client.specs.OutcomeReading.{IsOutcome, TellsThings, absent_of, answered, as_read, collected_in, head_in, state_told, told_in, version_in}
use Rattle.http_client.proofs.MemberLemmas.{id_at-found, number_at-found}
use Rattle.http_client.proofs.RefusalBodyLemmas.{refusal_read}
use Rattle.http_client.proofs.RequestLemmas.{ids_read_back}
use Rattle.ids.proofs.DigitsLemmas.{IsUtf8-encode_lower}

version_told : told_in version_in version_body ≡ Some Version
unfolding version_body
version_told =
    ap (option_and_then version_in) (json_of-compact_text version_data (IsUtf8-are_ascii (codes "version") refl, lit< tt, refl, tt) (lit≤ tt))
    ∙ ap (option_and_then (λ version. if version == 2 then Some Version else None)) (number_at-found (codes "version") version_data 2 refl)

head_told : (id : List ℕ) → IsObjectId id → told_in head_in (head_body id) ≡ Some id
unfolding head_body
head_told id named =
    ap (option_and_then head_in)
    (json_of-compact_text (head_data id)
    (IsUtf8-are_ascii (codes "head_commit_id") refl, IsUtf8-encode_lower id, refl, (IsUtf8-are_ascii (codes "is_corrupted") refl, lit< tt, refl, tt)) (lit≤ tt))
    ∙ id_at-found (codes "head_commit_id") (head_data id) id named refl

collected_told : (count removed : ℕ) → count < 2 ^ 64 → removed < 2 ^ 64 → told_in collected_in (collected_body count removed) ≡ Some (Collected count removed)
unfolding collected_body
collected_told count removed count_fits removed_fits =
    let d = collected_data count removed in
    ap (option_and_then collected_in)
    (json_of-compact_text d (IsUtf8-are_ascii (codes "collection") refl, count_fits, refl, (IsUtf8-are_ascii (codes "removed") refl, removed_fits, refl, tt)) (lit≤ tt))
    ∙ ap₂ (λ (n r : Option ℕ). option_and_then (λ c. option_map (Collected c) r) n)
    (number_at-found (codes "collection") d count refl) (number_at-found (codes "removed") d removed refl)

version_read : (order : What) → asks_version order ≡ true → IsOutcome order Success None version_body (Some Version)
version_read what.Version can = sym version_told
version_read other can = absurd (false≢true can)

checked_read : (order : What) → asks_right order ≡ true → IsOutcome order Success None [] (Some (answered reply.Checked))
checked_read (what.Check op) can = refl
checked_read other can = absurd (false≢true can)

head_read : (id : List ℕ) (named : IsObjectId id) (tag : Tag) (order : What) → asks_head order ≡ true
    → IsOutcome order Success (Some tag) (head_body id) (Some (Plain (reply.HeadIs id) tag))
head_read id named tag (what.Head asked) can = sym (ap (state_told reply.HeadIs (Some tag)) (head_told id named))
head_read id named tag other can = absurd (false≢true can)

updated_read : (id : List ℕ) (named : IsObjectId id) (tag : Tag) (order : What) → is_update order ≡ true
    → IsOutcome order Success (Some tag) (head_body id) (Some (Plain (reply.Updated id) tag))
updated_read id named tag (what.Update commit) can = sym (ap (state_told reply.Updated (Some tag)) (head_told id named))
updated_read id named tag other can = absurd (false≢true can)

same_read : (tag : Tag) (order : What) → NamesTag order → IsOutcome order NotModified (Some tag) [] (Some (Same tag))
same_read tag (what.Head None) can = absurd can
same_read tag (what.Head (Some asked)) can = refl
same_read tag other can = absurd can

got_read : (body : List ℕ) (order : What) → asks_object order ≡ true → IsOutcome order Success None body (Some (answered (reply.Got body)))
got_read body (what.Get key) can = refl
got_read body other can = absurd (false≢true can)

stored_read : (order : What) → stores order ≡ true → IsOutcome order Success None [] (Some (answered (reply.Stored true)))
stored_read (what.Put key bytes) can = refl
stored_read (what.PutFs objects) can = refl
stored_read other can = absurd (false≢true can)

limited_read : (order : What) → is_limit order ≡ true → IsOutcome order Success None [] (Some (answered reply.Limited))
limited_read (what.Limit days) can = refl
limited_read other can = absurd (false≢true can)

collected_read : (count removed : ℕ) → count < 2 ^ 64 → removed < 2 ^ 64 → (order : What) → asks_collection order ≡ true
    → IsOutcome order Success None (collected_body count removed) (Some (Collected count removed))
collected_read count removed count_fits removed_fits what.Collect can = sym (collected_told count removed count_fits removed_fits)
collected_read count removed count_fits removed_fits other can = absurd (false≢true can)

listed_read : (ids : List (List ℕ)) (are : All IsObjectId ids) (order : What) → asks_list order ≡ true → IsOutcome order Success None (array_text ids) (Some (answered (reply.Listed ids)))
listed_read ids are (what.Ids server client) can = sym (ap (λ r. option_map (λ i. answered (reply.Listed i)) (result_ok r)) (ids_read_back ids are))
listed_read ids are other can = absurd (false≢true can)

absent_read : (ids : List (List ℕ)) (are : All IsObjectId ids) (order : What) → CanMiss order ids → IsOutcome order Success None (array_text ids) (Some (answered (reply.Absent ids)))
absent_read ids are (what.Missing kind asked) can = sym (ap (λ r. absent_of asked (result_ok r)) (ids_read_back ids are) ∙ ap (λ b. if b then Some (answered (reply.Absent ids)) else None) can)
absent_read ids are other can = absurd can

packed_read : (rows : List Row) (are : All IsRow rows) (order : What) → CanPack order rows → IsOutcome order Success None (rows_text rows) (Some (Packed rows))
packed_read rows are (what.GetFs asked) can = ((are, refl), can)
packed_read rows are other can = absurd can

pub outcome_read : (order : What) (o : Outcome) → CanHave order o → TellsThings o → IsOutcome order (parts_of o).status (parts_of o).tag (parts_of o).body (Some (as_read o))
outcome_read order Version can is = version_read order can
outcome_read order (Same tag) can is = same_read tag order can
outcome_read order (Plain reply.Checked tag) can is = checked_read order can
outcome_read order (Plain (reply.HeadIs id) tag) can is = head_read id is.0 tag order can
outcome_read order (Plain (reply.Got bytes) tag) can is = got_read bytes order can
outcome_read order (Plain (reply.Stored is_new) tag) can is = stored_read order can
outcome_read order (Plain (reply.Absent ids) tag) can is = absent_read ids is.0 order can
outcome_read order (Plain (reply.Updated id) tag) can is = updated_read id is.0 tag order can
outcome_read order (Plain reply.Limited tag) can is = limited_read order can
outcome_read order (Plain (reply.Listed ids) tag) can is = listed_read ids is.0 order can
outcome_read order (Plain (reply.Refused why) tag) can is = refusal_read order why can is.0.0 is.0.1
outcome_read order (Packed rows) can is = packed_read rows is order can
outcome_read order (Collected count removed) can is = collected_read count removed is.0 is.1 order can
outcome_read order (Refused why) can is = refusal_read order why can is.0 is.1
