-- The requests that a stream of bytes spells, one after the other, and where they end. The head is read
-- from the first 16,384 bytes of what is left, and has at most 64 fields. Read first: RequestHead.
use Rattle.std.specs.Prelude.{ℕ, ◌≡◌, ◌≢◌, ◌<◌, ◌≤◌, ◌*◌, false, Ok, Err, List, [], ◌∷◌, ◌++◌, length, take, drop, All, ⊤}
use Rattle.httparse.specs.Grammar.{RequestHead, ReadsRequest, print_request, HasNoRequest}
use Rattle.httparse.specs.Spans.{RequestOverflows}
use Rattle.http_front.specs.TargetFront.{MayBecomeHead}
use Rattle.http_front.specs.Limits.{field_limit, head_limit}
use Rattle.http_front.specs.ReplyText.{interim_due}
use Rattle.http_front.specs.RequestHead.{judge, closes, expects}

-- a request: its head and its body
pub record Request : Type 0 where
  pub head : RequestHead
  pub body : List ℕ

-- the input is that head, and then the rest
pub record IsHeadAt (input : List ℕ) (head : RequestHead) (rest : List ℕ) : Type 0 where
  pub reads : ReadsRequest input head rest
  pub few : length head.fields ≤ field_limit
  pub short : length (print_request head) ≤ head_limit

-- the input is that request, whose head is accepted, and then the rest
pub record IsRequest (input : List ℕ) (request : Request) (rest : List ℕ) : Type 0 where
  pub head : IsHeadAt input request.head (request.body ++ rest)
  pub accepted : judge request.head ≡ Ok (length request.body)

-- after a request that closes no other is read
abbrev pub MayFollow : Request → List Request → Type 0
MayFollow request [] = ⊤
MayFollow request (next ∷ more) = closes request.head ≡ false

-- the input is those requests, and then the rest
abbrev pub Reads : List ℕ → List Request → List ℕ → Type 0
Reads input [] rest = input ≡ rest
Reads input (request ∷ more) rest =
    (middle : List ℕ) × IsRequest input request middle × MayFollow request more × Reads middle more rest

-- the longer list begins with the shorter
pub record Extends (shorter longer : List Request) : Type 0 where
  pub more : List Request
  pub is : longer ≡ shorter ++ more

-- the bytes of which a head is read
abbrev pub front_of : List ℕ → List ℕ
front_of rest = take head_limit rest

-- no head stands there yet, and one may still come
pub record IsOpen (rest : List ℕ) : Type 0 where
  pub none : HasNoRequest (front_of rest)
  pub may : MayBecomeHead (front_of rest)

-- the interim reply that a head waits for, if it does, whether or not bytes of the body come with the head
abbrev pub interim_of : RequestHead → List ℕ
interim_of head = interim_due (expects head)

-- the input ends within a request, for which these bytes were given: the interim reply of its head, if that waits for one
pub data IsCutAfter (rest given : List ℕ) : Type 0 where
  in_head : rest ≢ [] → length rest < head_limit → IsOpen rest → given ≡ [] → IsCutAfter rest given
  in_body : (head : RequestHead) (after : List ℕ) (length_due : ℕ) → IsHeadAt rest head after
      → judge head ≡ Ok length_due → length after < length_due → given ≡ interim_of head → IsCutAfter rest given

-- so many bytes were looked at for a head that is not there yet: at least half of what is there, and all up to the last line
-- feed. They may become a head, so what begins none is refused by then
pub record IsLookedAt (seen : ℕ) (unread : List ℕ) : Type 0 where
  pub half : length unread ≤ 2 * seen
  pub lines : All (λ byte. byte ≢ 10) (drop seen unread)
  pub may : MayBecomeHead (take seen unread)

-- less than a request, for which these bytes were given: the interim reply of its head, if that is there and waits for one
pub data IsUnfinished (unread given : List ℕ) : Type 0 where
  head_open : (seen : ℕ) → length unread < head_limit → HasNoRequest unread → IsLookedAt seen unread → given ≡ [] → IsUnfinished unread given
  body_open : (head : RequestHead) (after : List ℕ) (length_due : ℕ) → IsHeadAt unread head after
      → judge head ≡ Ok length_due → length after < length_due → given ≡ interim_of head → IsUnfinished unread given

-- what is left begins with no request, for the cause that the status tells
pub data IsRefused (rest : List ℕ) (status : ℕ) : Type 0 where
  by_head : (head : RequestHead) (after : List ℕ) → IsHeadAt rest head after → judge head ≡ Err status
      → IsRefused rest status
  by_bytes : status ≡ 400 → RequestOverflows field_limit (front_of rest) → IsRefused rest status
  by_length : status ≡ 431 → head_limit ≤ length rest → IsOpen rest → IsRefused rest status

-- the input begins with no whole request
abbrev pub HasNoWhole : List ℕ → Type 0
HasNoWhole input = (request : Request) (rest : List ℕ) → IsRequest input request rest → ⊥

-- no head stands there and one may come, but none of at most 64 fields. Whether this is told as cut short or as refused, and
-- with which status, is free
pub record NeedsManyFields (rest : List ℕ) : Type 0 where
  pub none : HasNoRequest (front_of rest)
  pub may : MayBecomeHead (front_of rest)
  pub many : RequestOverflows field_limit (front_of rest)
