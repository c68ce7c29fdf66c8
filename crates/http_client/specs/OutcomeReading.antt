-- The outcome that the body of a reply tells one who gave an order, by the status and the tag of its head. What a text does not
-- show is read as fixed: a tag of two zeros where none is due, that what was put was new, and that a refusal came before any
-- library was asked.
-- Read first: OrderOutcome, RefusalReading; here: IsOutcome, at the end.
use Rattle.std.specs.Prelude.{ℕ, ◌≡◌, ◌<◌, ◌^◌, Bool, true, false, ◌==◌, if◌then◌else◌, Option, None, Some, Ok, List, length, map, option_map, codes, All, ⊤}
use Rattle.std.specs.Option.{option_and_then}
use Rattle.std.specs.Result.{result_ok}
use Rattle.serde_json.specs.Data.{Data, boolean, number}
use Rattle.serde_json.specs.Find.{get}
use Rattle.json_words.specs.JsonText.{json_of}
use Rattle.library_state.specs.declared.refusal.Refusal.{Refusal}
use Rattle.library_state.specs.declared.reply.Reply.{Reply}
use Rattle.library_state.specs.declared.reply.Reply.TheVariants as reply
use Rattle.library_state.specs.declared.tag.Tag.{Tag}
use Rattle.http_front.specs.CallQuery.{IsObjectId}
use Rattle.http_front.specs.IdArray.{ids_of}
use Rattle.http_front.specs.NextHead.{IsTag}
use Rattle.http_front.specs.RefusalText.{refused_status}
use Rattle.http_front.specs.Rows.{IsRow, IsRowsOf}
use Rattle.http_front.specs.declared.order.What.{What}
use Rattle.http_front.specs.declared.order.What.TheVariants as what
use Rattle.http_front.specs.declared.outcome.Outcome.{Outcome}
use Rattle.http_front.specs.declared.outcome.Outcome.TheVariants.{Version, Same, Plain, Packed, Collected, Refused}
use Rattle.http_front.specs.declared.row.Row.{Row}
use Rattle.http_front.specs.declared.status.Status.{Status}
use Rattle.http_front.specs.declared.status.Status.TheVariants.{Success, NotModified}
use Rattle.http_client.specs.OrderOutcome.{are_among, can_refuse, row_id}
use Rattle.http_client.specs.RefusalReading.{IsSpoken, NamesThings, TellsRefusal}
use Rattle.http_client.specs.RefusalWords.{id_at, number_at}
use Rattle.http_client.specs.ReplyHead.{status_number}

-- the tag of what shows none
abbrev pub no_tag : Tag
no_tag = record { opening = 0; count = 0 }

abbrev pub answered : Reply → Outcome
answered told = Plain told no_tag

-- what a body tells that is a JSON text
abbrev pub told_in : {A : Type 0} → (Data → Option A) → List ℕ → Option A
told_in read body = option_and_then read (json_of body)

-- the reply, where there is no body
abbrev pub if_empty : List ℕ → Reply → Option Outcome
if_empty body told = if length body == 0 then Some (answered told) else None

-- the protocol's version is 2
abbrev pub version_in : Data → Option Outcome
version_in d = option_and_then (λ version. if version == 2 then Some Version else None) (number_at (codes "version") d)

-- the number of a collection, and how many objects it removed
abbrev pub collected_in : Data → Option Outcome
collected_in d = option_and_then (λ count. option_map (Collected count) (number_at (codes "removed") d)) (number_at (codes "collection") d)

-- a number or a truth value
abbrev pub is_flag : Data → Bool
is_flag (boolean b) = true
is_flag (number n) = true
is_flag _ = false

abbrev pub has_flag : Option Data → Bool
has_flag None = false
has_flag (Some d) = is_flag d

-- the commit that a library stands at, beside a number or a truth value that says nothing here
abbrev pub head_in : Data → Option (List ℕ)
head_in d = if has_flag (get (codes "is_corrupted") d) then id_at (codes "head_commit_id") d else None

-- where a library stands, told beside the tag of that state
abbrev pub state_told : (List ℕ → Reply) → Option Tag → Option (List ℕ) → Option Outcome
state_told says None id = None
state_told says (Some tag) id = option_map (λ i. Plain (says i) tag) id

abbrev pub absent_of : List (List ℕ) → Option (List (List ℕ)) → Option Outcome
absent_of asked None = None
absent_of asked (Some ids) = if are_among asked ids then Some (answered (reply.Absent ids)) else None

abbrev pub ids_in : List ℕ → Option (List (List ℕ))
ids_in body = result_ok (ids_of body)

-- the rows of these ids, in this order
abbrev pub IsPacked : List (List ℕ) → List ℕ → Option Outcome → Type 0
IsPacked ids body None = (rows : List Row) → IsRowsOf body (Ok rows) → map row_id rows ≡ ids → ⊥
IsPacked ids body (Some (Packed rows)) = IsRowsOf body (Ok rows) × (map row_id rows ≡ ids)
IsPacked ids body (Some _) = ⊥

-- what a body tells that comes with success
abbrev pub IsSuccess : What → Option Tag → List ℕ → Option Outcome → Type 0
IsSuccess what.Version tag body told = told ≡ told_in version_in body
IsSuccess (what.Check op) tag body told = told ≡ if_empty body reply.Checked
IsSuccess (what.Head asked) tag body told = told ≡ state_told reply.HeadIs tag (told_in head_in body)
IsSuccess (what.Update commit) tag body told = told ≡ state_told reply.Updated tag (told_in head_in body)
IsSuccess (what.Get key) tag body told = told ≡ Some (answered (reply.Got body))
IsSuccess (what.Put key bytes) tag body told = told ≡ if_empty body (reply.Stored true)
IsSuccess (what.Missing kind ids) tag body told = told ≡ absent_of ids (ids_in body)
IsSuccess (what.PutFs rows) tag body told = told ≡ if_empty body (reply.Stored true)
IsSuccess (what.GetFs ids) tag body told = IsPacked ids body told
IsSuccess (what.Ids server client) tag body told = told ≡ option_map (λ ids. answered (reply.Listed ids)) (ids_in body)
IsSuccess (what.Limit days) tag body told = told ≡ if_empty body reply.Limited
IsSuccess what.Collect tag body told = told ≡ told_in collected_in body

-- the body tells that refusal, which the order can have and which comes with this status
pub record TellsWhy (order : What) (status : Status) (body : List ℕ) (why : Refusal) : Type 0 where
  pub value : Data
  pub is_text : json_of body ≡ Some value
  pub tells : TellsRefusal value why
  pub due : status_number (refused_status why) ≡ status_number status
  pub can : can_refuse order why ≡ true

abbrev pub IsRefusal : What → Status → List ℕ → Option Outcome → Type 0
IsRefusal order status body None = (why : Refusal) → TellsWhy order status body why → ⊥
IsRefusal order status body (Some (Refused why)) = TellsWhy order status body why
IsRefusal order status body (Some _) = ⊥

-- that a library is still as it was, told to one who named a tag, by the tag of the reply
abbrev pub same_to : Option Tag → Option Tag → Option Outcome
same_to None tag = None
same_to (Some asked) tag = option_map Same tag

abbrev pub same_told : What → Option Tag → Option Outcome
same_told (what.Head asked) tag = same_to asked tag
same_told _ tag = None

-- the outcome that a body tells with a status and a tag, or none
abbrev pub IsOutcome : What → Status → Option Tag → List ℕ → Option Outcome → Type 0
IsOutcome order Success tag body told = IsSuccess order tag body told
IsOutcome order NotModified tag body told = told ≡ same_told order tag
IsOutcome order status tag body told = IsRefusal order status body told

-- ---- what is read of an outcome that was written

abbrev pub answer_read : Reply → Tag → Outcome
answer_read reply.Checked tag = answered reply.Checked
answer_read (reply.HeadIs id) tag = Plain (reply.HeadIs id) tag
answer_read (reply.Got bytes) tag = answered (reply.Got bytes)
answer_read (reply.Stored is_new) tag = answered (reply.Stored true)
answer_read (reply.Absent ids) tag = answered (reply.Absent ids)
answer_read (reply.Updated id) tag = Plain (reply.Updated id) tag
answer_read reply.Limited tag = answered reply.Limited
answer_read (reply.Listed ids) tag = answered (reply.Listed ids)
answer_read (reply.Refused why) tag = Refused why

abbrev pub as_read : Outcome → Outcome
as_read Version = Version
as_read (Same tag) = Same tag
as_read (Plain told tag) = answer_read told tag
as_read (Packed rows) = Packed rows
as_read (Collected count removed) = Collected count removed
as_read (Refused why) = Refused why

-- ids are ids, rows have lengths that are told, numbers and those of tags have 64 bits, and what a refusal says can be said, as in every outcome
-- of a program
abbrev pub SaysThings : Reply → Type 0
SaysThings (reply.HeadIs id) = IsObjectId id
SaysThings (reply.Updated id) = IsObjectId id
SaysThings (reply.Absent ids) = All IsObjectId ids
SaysThings (reply.Listed ids) = All IsObjectId ids
SaysThings (reply.Refused why) = NamesThings why × IsSpoken why
SaysThings _ = ⊤

abbrev pub TellsThings : Outcome → Type 0
TellsThings (Same tag) = IsTag tag
TellsThings (Plain told tag) = SaysThings told × IsTag tag
TellsThings (Packed rows) = All IsRow rows
TellsThings (Collected count removed) = (count < 2 ^ 64) × (removed < 2 ^ 64)
TellsThings (Refused why) = NamesThings why × IsSpoken why
TellsThings _ = ⊤
