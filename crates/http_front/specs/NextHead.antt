-- What stands at the front of a buffer: a head, the beginning of one, or what is no head that is served.
-- Read first: RequestHead, RequestStream; here: IsNext.
use Rattle.std.specs.Prelude.{ℕ, ◌≡◌, ◌<◌, ◌≤◌, ◌^◌, Bool, true, false, nat_le, Option, None, Some, Ok, Err, List, length, take, drop, codes, decimal}
use Rattle.hex.specs.Hex.{IsBytes, encode_lower}
use Rattle.httparse.specs.Grammar.{RequestHead, ReadsRequest, print_request, HasNoRequest}
use Rattle.httparse.specs.Spans.{RequestOverflows}
use Rattle.library_state.specs.declared.tag.Tag.{Tag}
use Rattle.http_front.specs.TargetFront.{MayBecomeHead}
use Rattle.http_front.specs.Fields.{Found, once, found, values_of}
use Rattle.http_front.specs.Limits.{field_limit, head_limit}
use Rattle.http_front.specs.EntityTag.{numbers_text, tag_text}
use Rattle.http_front.specs.RequestHead.{fields_of, judge, expects, closes, method_of}
use Rattle.http_front.specs.declared.head.Head.{Head}
use Rattle.http_front.specs.declared.head.Next.{Next}
use Rattle.http_front.specs.declared.head.Next.TheVariants as next

-- the 20 bytes of a secret
pub record IsSecret (secret : List ℕ) : Type 0 where
  pub size : length secret ≡ 20
  pub bytes : IsBytes secret

-- the text is the 40 digits of that secret, or of none
abbrev pub IsSecretText : List ℕ → Option (List ℕ) → Type 0
IsSecretText text None = (secret : List ℕ) → IsSecret secret → text ≡ encode_lower secret → ⊥
IsSecretText text (Some secret) = IsSecret secret × (text ≡ encode_lower secret)

-- a secret's 40 digits are there once, or there is no secret
abbrev pub IsTokenIn : Found → Option (List ℕ) → Type 0
IsTokenIn field None = (secret : List ℕ) → IsSecret secret → field ≡ once (encode_lower secret) → ⊥
IsTokenIn field (Some secret) = IsSecret secret × (field ≡ once (encode_lower secret))

-- both numbers have at most 64 bits
pub record IsTag (tag : Tag) : Type 0 where
  pub opening : tag.opening < 2 ^ 64
  pub count : tag.count < 2 ^ 64

-- the text is that number in decimal, or no number below 2 ^ 64
abbrev pub IsNumberText : List ℕ → Option ℕ → Type 0
IsNumberText text None = (number : ℕ) → number < 2 ^ 64 → text ≡ decimal number → ⊥
IsNumberText text (Some number) = (number < 2 ^ 64) × (text ≡ decimal number)

-- the text is the numbers of that tag, or of none
abbrev pub IsNumbersText : List ℕ → Option Tag → Type 0
IsNumbersText text None = (tag : Tag) → IsTag tag → text ≡ numbers_text tag → ⊥
IsNumbersText text (Some tag) = IsTag tag × (text ≡ numbers_text tag)

-- the text is that tag's, or no tag's
abbrev pub IsTagText : List ℕ → Option Tag → Type 0
IsTagText text None = (tag : Tag) → IsTag tag → text ≡ tag_text tag → ⊥
IsTagText text (Some tag) = IsTag tag × (text ≡ tag_text tag)

-- a tag's text is there once, or there is no tag
abbrev pub IsTagIn : Found → Option Tag → Type 0
IsTagIn field None = (tag : Tag) → IsTag tag → field ≡ once (tag_text tag) → ⊥
IsTagIn field (Some tag) = IsTag tag × (field ≡ once (tag_text tag))

-- the head is what the request's head says
pub record IsHeadOf (front : List ℕ) (head : Head) (request : RequestHead) : Type 0 where
  pub reads : ReadsRequest front request (drop head.used front)
  pub few : length request.fields ≤ field_limit
  pub used : head.used ≡ length (print_request request)
  pub body : judge request ≡ Ok head.body
  pub expects_is : head.expects ≡ expects request
  pub closes_is : head.closes ≡ closes request
  pub method : head.method ≡ method_of request.method
  pub target : head.target ≡ request.target
  pub token : IsTokenIn (found (values_of (codes "seafile-repo-token") (fields_of request))) head.token
  pub tag : IsTagIn (found (values_of (codes "if-none-match") (fields_of request))) head.tag

-- why the front is refused with that status
pub data IsBad (front : List ℕ) (full : Bool) (status : ℕ) : Type 0 where
  of_head : (request : RequestHead) (rest : List ℕ) → ReadsRequest front request rest
      → length request.fields ≤ field_limit → judge request ≡ Err status → IsBad front full status
  of_bytes : status ≡ 400 → RequestOverflows field_limit front → IsBad front full status
  of_length : status ≡ 431 → full ≡ true → HasNoRequest front → MayBecomeHead front
      → IsBad front full status

-- full: the front is as long as a head may be
abbrev pub IsNextIn : List ℕ → Bool → Next → Type 0
IsNextIn front full next.Need = (full ≡ false) × HasNoRequest front × MayBecomeHead front
IsNextIn front full (next.Head head) = (request : RequestHead) × IsHeadOf front head request
IsNextIn front full (next.Bad status) = IsBad front full status

-- what stands at the front of the buffer
abbrev pub IsNext : List ℕ → Next → Type 0
IsNext buffer told = IsNextIn (take head_limit buffer) (nat_le head_limit (length buffer)) told
