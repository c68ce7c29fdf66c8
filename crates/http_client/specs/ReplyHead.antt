-- The head of a reply, as a client reads it: where one stands at the front of some bytes, where one may still come, and
-- what is told by one. The grammar of heads is httparse's (RFC 9112, sections 2 to 5); that a head is of HTTP/1.1 and has
-- at most so many fields (Limits of `http_front`) is our own, as are the statuses. Read IsHeadAt first, then IsRight.
use Rattle.std.specs.Prelude.{ℕ, ◌≡◌, ◌≤◌, Bool, true, false, Option, None, Some, List, ◌++◌, [], length, map, option_map, codes, ⊤}
use Rattle.httparse.specs.Grammar.{ReadsResponse, ResponseHead, status_code}
use Rattle.httparse.specs.Spans.{name_and_value}
use Rattle.library_state.specs.declared.tag.Tag.{Tag}
use Rattle.http_front.specs.Fields.{FieldList, Found, absent, once, again, found, values_of}
use Rattle.http_front.specs.Limits.{field_limit}
use Rattle.http_front.specs.NextHead.{IsTagIn}
use Rattle.http_front.specs.RequestHead.{number_in, wants_close}
use Rattle.http_front.specs.declared.order.What.{What}
use Rattle.http_front.specs.declared.order.What.TheVariants as what
use Rattle.http_front.specs.declared.status.Status.{Status}
use Rattle.http_front.specs.declared.status.Status.TheVariants.{Success, NotModified, BadRequest, Forbidden, NotFound, Conflict, ContentTooLarge, HeadTooLarge, TooLarge, Damaged, Incomplete, Spent, ServerError, NotImplemented, Unavailable}

-- ---- where a head stands, and where one may come

-- the bytes are that head of HTTP/1.1, and then the rest
pub record IsHeadAt (bytes : List ℕ) (head : ResponseHead) (rest : List ℕ) : Type 0 where
  pub reads : ReadsResponse bytes head rest
  pub newest : head.minor ≡ 1
  pub few : length head.fields ≤ field_limit

-- no such head stands at the front
abbrev pub HasNoHead : List ℕ → Type 0
HasNoHead bytes = (head : ResponseHead) (rest : List ℕ) → IsHeadAt bytes head rest → ⊥

-- whatever follows, no such head stands at the front
abbrev pub NeverHasHead : List ℕ → Type 0
NeverHasHead bytes = (more : List ℕ) → HasNoHead (bytes ++ more)

-- some bytes can follow that make all of it a head of HTTP/1.1, with however many fields
pub record MayBecomeHead (bytes : List ℕ) : Type 0 where
  pub more : List ℕ
  pub head : ResponseHead
  pub reads : ReadsResponse (bytes ++ more) head []
  pub newest : head.minor ≡ 1

-- ---- what a head tells

abbrev pub fields_of : ResponseHead → FieldList
fields_of head = map name_and_value head.fields

-- the number of a status (RFC 9110, section 15; 431 is of RFC 6585, and 442 to 449 are our own)
abbrev pub status_number : Status → ℕ
status_number Success = 200
status_number NotModified = 304
status_number BadRequest = 400
status_number Forbidden = 403
status_number NotFound = 404
status_number Conflict = 409
status_number ContentTooLarge = 413
status_number HeadTooLarge = 431
status_number TooLarge = 442
status_number Damaged = 445
status_number Incomplete = 446
status_number Spent = 449
status_number ServerError = 500
status_number NotImplemented = 501
status_number Unavailable = 503

-- the length of the body by the field that tells it. It is there once, as a number; with 304 it may be left out, and counts as
-- 0 whatever it says, for such a reply ends with its head (RFC 9112, section 6.3)
abbrev pub size_due : Status → Found → Option ℕ
size_due NotModified absent = Some 0
size_due NotModified (once value) = option_map (λ n. 0) (number_in value)
size_due NotModified again = None
size_due _ absent = None
size_due _ (once value) = number_in value
size_due _ again = None

-- how often a head has a tag
abbrev pub tag_field : FieldList → Found
tag_field fields = found (values_of (codes "etag") fields)

-- a tag in its form is there once
pub record HasTag (fields : FieldList) : Type 0 where
  pub tag : Tag
  pub there : IsTagIn (tag_field fields) (Some tag)

-- what is replied to the order tells of a state of the library
abbrev pub tells_state : What → Bool
tells_state (what.Head tag) = true
tells_state (what.Update commit) = true
tells_state _ = false

-- whether a reply with this status to that order has to have a tag: that a library is still as it was, and where it stands
abbrev pub tag_due : What → Status → Bool
tag_due order NotModified = true
tag_due order Success = tells_state order
tag_due order _ = false

abbrev pub IsTagged : Bool → FieldList → Type 0
IsTagged false fields = ⊤
IsTagged true fields = HasTag fields

-- a head of that number and those fields is right, of this status and with a body of this length
pub record IsRightBy (order : What) (code : ℕ) (fields : FieldList) (status : Status) (size : ℕ) : Type 0 where
  pub status_is : status_number status ≡ code
  pub size_is : size_due status (found (values_of (codes "content-length") fields)) ≡ Some size
  pub tagged : IsTagged (tag_due order status) fields

abbrev pub IsRight : What → ResponseHead → Status → ℕ → Type 0
IsRight order head status size = IsRightBy order (status_code head) (fields_of head) status size

-- the head is not right, whatever its status
abbrev pub IsWrongBy : What → ℕ → FieldList → Type 0
IsWrongBy order code fields = (status : Status) (size : ℕ) → IsRightBy order code fields status size → ⊥

abbrev pub IsWrong : What → ResponseHead → Type 0
IsWrong order head = IsWrongBy order (status_code head) (fields_of head)

-- the connection ends after the reply
abbrev pub closes : ResponseHead → Bool
closes head = wants_close (fields_of head)
