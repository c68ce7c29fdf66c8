-- What the head of a request asks for, and what speaks against it before its body is read. The grammar
-- of heads is httparse's (RFC 9112, sections 2 to 5); which heads are refused is our own choice among
-- what RFC 9112 and RFC 9110 permit. Read first: Fields, Route; here: judge, at the end.
use Rattle.std.specs.Prelude.{ℕ, Bool, true, false, ◌&&◌, ◌||◌, not, ◌==◌, nat_lt, nat_le, Option, None, Some, Result, Ok, Err, List, length, map, if◌then◌else◌, codes}
use Rattle.std.specs.List.{list_any, list_all}
use Rattle.std.specs.Str.{bytes_eq}
use Rattle.std.specs.Str.Parse.{digits_value}
use Rattle.std.specs.Char.{is_ascii_digit}
use Rattle.httparse.specs.Grammar.{RequestHead}
use Rattle.httparse.specs.Spans.{name_and_value}
use Rattle.http_front.specs.Fields.{FieldList, Found, absent, once, again, values_of, found, is_absent, is_once, is_word, has_element}
use Rattle.http_front.specs.Route.{limit_of}
use Rattle.http_front.specs.declared.method.Method.{Method}
use Rattle.http_front.specs.declared.method.Method.TheVariants.{Get, Put, Post, Other}

abbrev pub method_of : List ℕ → Method
method_of name =
    if bytes_eq name (codes "GET") then Get
    else if bytes_eq name (codes "PUT") then Put
    else if bytes_eq name (codes "POST") then Post
    else Other

abbrev pub fields_of : RequestHead → FieldList
fields_of head = map name_and_value head.fields

-- a number of 1 to 19 decimal digits
abbrev pub number_in : List ℕ → Option ℕ
number_in text =
    if nat_lt 0 (length text) && nat_le (length text) 19 && list_all is_ascii_digit text then Some (digits_value 10 text) else None

-- the length of a body by its field, which is 0 where the field is absent
abbrev pub length_in : Found → Option ℕ
length_in absent = Some 0
length_in (once value) = number_in value
length_in again = None

-- the fields ask for a coding of the message
abbrev pub has_coding : FieldList → Bool
has_coding fields = not (is_absent (found (values_of (codes "transfer-encoding") fields)))

abbrev pub body_length : FieldList → Option ℕ
body_length fields = length_in (found (values_of (codes "content-length") fields))

-- the host is named as the version asks: once in HTTP/1.1
abbrev pub has_host : ℕ → FieldList → Bool
has_host minor fields = (minor == 0) || is_once (found (values_of (codes "host") fields))

-- some `Expect` field has the value `100-continue`
abbrev pub wants_continue : FieldList → Bool
wants_continue fields = list_any (is_word (codes "100-continue")) (values_of (codes "expect") fields)

abbrev pub wants_close : FieldList → Bool
wants_close fields = list_any (has_element (codes "close")) (values_of (codes "connection") fields)

-- the length of the body, or the status of the first cause in this order
abbrev pub judged : Bool → Option ℕ → Bool → ℕ → Result ℕ ℕ
judged true length host limit = Err 501
judged false None host limit = Err 400
judged false (Some length) false limit = Err 400
judged false (Some length) true limit = if nat_le length limit then Ok length else Err 413

unfoldable pub judged_by : ℕ → List ℕ → List ℕ → FieldList → Result ℕ ℕ
judged_by minor method target fields =
    judged (has_coding fields) (body_length fields) (has_host minor fields) (limit_of (method_of method) target)

abbrev pub judge : RequestHead → Result ℕ ℕ
judge head = judged_by head.minor head.method head.target (fields_of head)

-- the connection ends after the reply
unfoldable pub closes_by : ℕ → FieldList → Bool
closes_by minor fields = (minor == 0) || wants_close fields

abbrev pub closes : RequestHead → Bool
closes head = closes_by head.minor (fields_of head)

-- the client waits for the interim reply before it sends a body of that length
unfoldable pub expects_by : ℕ → ℕ → FieldList → Bool
expects_by minor length fields = (minor == 1) && nat_lt 0 length && wants_continue fields

abbrev pub expects_after : Result ℕ ℕ → RequestHead → Bool
expects_after (Ok length) head = expects_by head.minor length (fields_of head)
expects_after (Err status) head = false

abbrev pub expects : RequestHead → Bool
expects head = expects_after (judge head) head
