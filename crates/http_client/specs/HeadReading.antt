-- For private clauses: what was seen of a head, and what stands where the version of a head does. Read first: ReplyHead.
use Rattle.std.specs.Prelude.{ℕ, ◌≡◌, ◌≤◌, ◌==◌, ◌||◌, Bool, false, if◌then◌else◌, Option, None, Some, List, [], ◌∷◌, drop, length}
use Rattle.httparse.specs.Grammar.{ResponseHead, print_response, status_code}
use Rattle.http_front.specs.Fields.{FieldList}
use Rattle.http_front.specs.NextHead.{IsTagIn}
use Rattle.http_front.specs.declared.order.What.{What}
use Rattle.http_front.specs.declared.status.Status.{Status}
use Rattle.http_front.specs.declared.status.Status.TheVariants.{Success, NotModified, BadRequest, Forbidden, NotFound, Conflict, ContentTooLarge, HeadTooLarge, TooLarge, Damaged, Incomplete, Spent, ServerError, NotImplemented, Unavailable}
use Rattle.http_client.specs.ReplyHead.{IsHeadAt, IsRightBy, IsWrongBy, closes, fields_of, tag_field}
use Rattle.http_client.specs.declared.reply_head.SeenHead.{SeenHead}

-- the status of a number, where it is one of a reply
unfoldable pub status_of : ℕ → Option Status
status_of code =
    if code == 200 then Some Success
    else if code == 304 then Some NotModified
    else if code == 400 then Some BadRequest
    else if code == 403 then Some Forbidden
    else if code == 404 then Some NotFound
    else if code == 409 then Some Conflict
    else if code == 413 then Some ContentTooLarge
    else if code == 431 then Some HeadTooLarge
    else if code == 442 then Some TooLarge
    else if code == 445 then Some Damaged
    else if code == 446 then Some Incomplete
    else if code == 449 then Some Spent
    else if code == 500 then Some ServerError
    else if code == 501 then Some NotImplemented
    else if code == 503 then Some Unavailable
    else None

-- the status and the length of the body, or none where the head is not right
abbrev pub IsJudgedBy : What → ℕ → FieldList → Option (Status × ℕ) → Type 0
IsJudgedBy order code fields None = IsWrongBy order code fields
IsJudgedBy order code fields (Some told) = IsRightBy order code fields told.0 told.1

-- a head stands there, and this is what it tells
pub record IsSeen (order : What) (front : List ℕ) (seen : SeenHead) : Type 0 where
  pub head : ResponseHead
  pub rest : List ℕ
  pub at : IsHeadAt front head rest
  pub size : seen.size ≡ length (print_response head)
  pub inside : seen.size ≤ length front
  pub told : IsJudgedBy order (status_code head) (fields_of head) seen.told
  pub tag_is : IsTagIn (tag_field (fields_of head)) seen.tag
  pub closes_is : seen.closes ≡ closes head

-- what follows the ends of lines at the front
abbrev pub after_blank : List ℕ → List ℕ
after_blank [] = []
after_blank (byte ∷ bytes) = if byte == 13 || byte == 10 then after_blank bytes else byte ∷ bytes

-- the first byte is a zero digit
abbrev pub begins_zero : List ℕ → Bool
begins_zero [] = false
begins_zero (byte ∷ bytes) = byte == 48

-- a head that goes on so is of HTTP/1.0
abbrev pub is_old : List ℕ → Bool
is_old bytes = begins_zero (drop 7 (after_blank bytes))
