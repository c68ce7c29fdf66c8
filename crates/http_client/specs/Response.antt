-- The reply that stands at the front of some bytes, for one who gave an order. Read IsResponse first, at the end.
use Rattle.std.specs.Prelude.{ℕ, ◌≡◌, ◌+◌, ◌<◌, ◌≤◌, Bool, Option, None, Some, List, length, take, drop}
use Rattle.httparse.specs.Grammar.{HasNoResponse, ResponseHead, print_response}
use Rattle.library_state.specs.declared.tag.Tag.{Tag}
use Rattle.http_front.specs.Limits.{head_limit}
use Rattle.http_front.specs.NextHead.{IsTagIn}
use Rattle.http_front.specs.declared.order.What.{What}
use Rattle.http_front.specs.declared.outcome.Outcome.{Outcome}
use Rattle.http_front.specs.declared.status.Status.{Status}
use Rattle.http_client.specs.OutcomeReading.{IsOutcome}
use Rattle.http_client.specs.ReplyHead.{HasNoHead, IsHeadAt, IsRight, IsWrong, MayBecomeHead, NeverHasHead, closes, fields_of, tag_field}
use Rattle.http_client.specs.declared.response.Response.{Response}
use Rattle.http_client.specs.declared.response.Response.TheVariants.{Need, Whole, Bad}

-- the bytes of which a head is read
abbrev pub front_of : List ℕ → List ℕ
front_of buffer = take head_limit buffer

-- a head that is right stands at the front
pub record HasHead (order : What) (buffer : List ℕ) (head : ResponseHead) (status : Status) (size : ℕ) : Type 0 where
  pub rest : List ℕ
  pub at : IsHeadAt (front_of buffer) head rest
  pub right : IsRight order head status size

-- the bytes behind a head
abbrev pub body_behind : List ℕ → ResponseHead → ℕ → List ℕ
body_behind buffer head size = take size (drop (length (print_response head)) buffer)

-- no head of any kind stands there, and one may still come
pub record IsOpen (buffer : List ℕ) : Type 0 where
  pub none : HasNoResponse (front_of buffer)
  pub may : MayBecomeHead (front_of buffer)

-- the reply is not all there: its head may still come, or a right one is there without all of the body
pub data IsCut (order : What) (buffer : List ℕ) : Type 0 where
  in_head : length buffer < head_limit → IsOpen buffer → IsCut order buffer
  in_body : (head : ResponseHead) (status : Status) (size : ℕ) → HasHead order buffer head status size
      → length buffer < length (print_response head) + size → IsCut order buffer

-- the reply is all there, and tells the order's outcome
pub record IsWhole (order : What) (buffer : List ℕ) (outcome : Outcome) (used : ℕ) (ends : Bool) : Type 0 where
  pub head : ResponseHead
  pub status : Status
  pub size : ℕ
  pub has : HasHead order buffer head status size
  pub used_is : used ≡ length (print_response head) + size
  pub there : used ≤ length buffer
  pub tag : Option Tag
  pub tag_is : IsTagIn (tag_field (fields_of head)) tag
  pub outcome_is : IsOutcome order status tag (body_behind buffer head size) (Some outcome)
  pub ends_is : ends ≡ closes head

-- no reply to the order stands at the front, and none will. The place is the first at which no head goes on, else the
-- most bytes that a head may have, else the length of the head, where that is not right or its body tells no outcome
pub data IsBad (order : What) (buffer : List ℕ) (at : ℕ) : Type 0 where
  in_bytes : HasNoHead (front_of buffer) → at < length (front_of buffer) → MayBecomeHead (take at (front_of buffer))
      → NeverHasHead (take (at + 1) (front_of buffer)) → IsBad order buffer at
  in_length : at ≡ head_limit → head_limit ≤ length buffer → IsOpen buffer → IsBad order buffer at
  in_head : (head : ResponseHead) (rest : List ℕ) → IsHeadAt (front_of buffer) head rest → IsWrong order head
      → at ≡ length (print_response head) → IsBad order buffer at
  in_body : (head : ResponseHead) (status : Status) (size : ℕ) (tag : Option Tag) → HasHead order buffer head status size
      → IsTagIn (tag_field (fields_of head)) tag → length (print_response head) + size ≤ length buffer
      → IsOutcome order status tag (body_behind buffer head size) None
      → at ≡ length (print_response head) → IsBad order buffer at

-- what is told of the bytes to one who gave the order
abbrev pub IsResponse : What → List ℕ → Response → Type 0
IsResponse order buffer Need = IsCut order buffer
IsResponse order buffer (Whole outcome used ends) = IsWhole order buffer outcome used ends
IsResponse order buffer (Bad at) = IsBad order buffer at

-- some beginning of the front goes on as a head, but with more than 64 fields alone. Whether such bytes are told as a beginning
-- or as none, and from which place on, is free
pub record NeedsManyFields (buffer : List ℕ) : Type 0 where
  pub size : ℕ
  pub may : MayBecomeHead (take size (front_of buffer))
  pub never : NeverHasHead (take size (front_of buffer))
