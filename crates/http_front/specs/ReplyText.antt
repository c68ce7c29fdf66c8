-- The bytes of a reply: status line, fields, an empty line and the body (RFC 9112, section 2.1). Which fields and bodies
-- there are is our own. Read text first, at the end.
use Rattle.std.specs.Prelude.{◌==◌, ◌||◌, ℕ, Bool, true, if◌then◌else◌, Option, None, Some, List, [], ◌∷◌, ◌++◌, length, codes, decimal, ⊤}
use Rattle.library_state.specs.declared.reply.Reply.{Reply}
use Rattle.library_state.specs.declared.reply.Reply.TheVariants as reply
use Rattle.library_state.specs.declared.refusal.Refusal.{Refusal}
use Rattle.library_state.specs.declared.tag.Tag.{Tag}
use Rattle.serde_json.specs.Written.{compact_text}
use Rattle.http_front.specs.EntityTag.{tag_text}
use Rattle.http_front.specs.IdArray.{array_text}
use Rattle.http_front.specs.ReplyBody.{collected_body, head_body, version_body}
use Rattle.http_front.specs.Rows.{FitRows, rows_text}
use Rattle.http_front.specs.Status.{status_words}
use Rattle.http_front.specs.RefusalText.{reason_data, refused_body, refused_status}
use Rattle.http_front.specs.declared.outcome.Outcome.{Outcome}
use Rattle.http_front.specs.declared.outcome.Outcome.TheVariants.{Version, Same, Plain, Packed, Collected, Refused}
use Rattle.http_front.specs.declared.status.Status.{Status}
use Rattle.http_front.specs.declared.status.Status.TheVariants.{Success, NotModified, BadRequest, ContentTooLarge, HeadTooLarge, NotImplemented}

-- what a reply is made of. The content type counts only where there is a body
pub record Parts : Type 0 where
  pub status : Status
  pub content_type : List ℕ
  pub tag : Option Tag
  pub body : List ℕ

abbrev pub end_of_line : List ℕ
end_of_line = 13 ∷ 10 ∷ []

-- a name or the version, its value, and the end of the line
unfoldable pub line : List ℕ → List ℕ → List ℕ
line name value = name ++ value ++ end_of_line

-- the type of a body of so many bytes
abbrev pub type_line : List ℕ → ℕ → List ℕ
type_line content_type size = if size == 0 then [] else line (codes "Content-Type: ") content_type

abbrev pub length_line : Status → ℕ → List ℕ
length_line NotModified size = []
length_line _ size = line (codes "Content-Length: ") (decimal size)

abbrev pub tag_line : Option Tag → List ℕ
tag_line None = []
tag_line (Some tag) = line (codes "ETag: ") (tag_text tag)

abbrev pub close_line : Bool → List ℕ
close_line closes = if closes then line (codes "Connection: ") (codes "close") else []

-- what stands in front of a body of so many bytes, with the wish to close the connection after it
unfoldable pub reply_front : Status → List ℕ → Option Tag → ℕ → Bool → List ℕ
reply_front status content_type tag size closes =
    line (codes "HTTP/1.1 ") (status_words status) ++ type_line content_type size ++ length_line status size ++ tag_line tag ++ close_line closes
    ++ end_of_line

-- the bytes of a reply's parts, and of the wish to close the connection after it
unfoldable pub written : Parts → Bool → List ℕ
written parts closes = reply_front parts.status parts.content_type parts.tag (length parts.body) closes ++ parts.body

abbrev pub parts_by : Status → List ℕ → Option Tag → List ℕ → Parts
parts_by status content_type tag body = record { status = status; content_type = content_type; tag = tag; body = body }

abbrev pub json_parts : Status → List ℕ → Parts
json_parts status body = parts_by status (codes "application/json") None body

abbrev pub octet_parts : List ℕ → Parts
octet_parts body = parts_by Success (codes "application/octet-stream") None body

abbrev pub refused_parts : Refusal → Parts
refused_parts refusal = json_parts (refused_status refusal) (refused_body refusal)

-- a body that tells of a state, beside the tag of that
abbrev pub tagged_parts : List ℕ → Tag → Parts
tagged_parts body tag = parts_by Success (codes "application/json") (Some tag) body

-- what is replied to a call, by an answer that tells of the state of this tag
abbrev pub reply_parts : Reply → Tag → Parts
reply_parts reply.Checked tag = json_parts Success []
reply_parts (reply.HeadIs id) tag = tagged_parts (head_body id) tag
reply_parts (reply.Got bytes) tag = octet_parts bytes
reply_parts (reply.Stored is_new) tag = json_parts Success []
reply_parts (reply.Absent ids) tag = json_parts Success (array_text ids)
reply_parts (reply.Updated id) tag = tagged_parts (head_body id) tag
reply_parts reply.Limited tag = json_parts Success []
reply_parts (reply.Listed ids) tag = json_parts Success (array_text ids)
reply_parts (reply.Refused refusal) tag = refused_parts refusal

abbrev pub parts_of : Outcome → Parts
parts_of Version = json_parts Success version_body
parts_of (Same tag) = parts_by NotModified (codes "application/json") (Some tag) []
parts_of (Plain reply tag) = reply_parts reply tag
parts_of (Packed rows) = octet_parts (rows_text rows)
parts_of (Collected number removed) = json_parts Success (collected_body number removed)
parts_of (Refused refusal) = refused_parts refusal

-- an outcome has a text unless it holds an object that is too long for a row
abbrev pub HasText : Outcome → Type 0
HasText (Packed rows) = FitRows rows
HasText _ = ⊤

-- the reply to a request, which ends the connection where it closes
unfoldable pub text : Outcome → Bool → List ℕ
text outcome closes = written (parts_of outcome) closes

-- the statuses that end a connection, where what was read is no request that is served
abbrev pub is_bad_status : ℕ → Bool
is_bad_status status = (status == 400) || (status == 413) || (status == 431) || (status == 501)

abbrev pub bad_body : List ℕ → List ℕ
bad_body reason = compact_text (reason_data reason)

-- what is replied where no request can be read
abbrev pub bad_parts : ℕ → Parts
bad_parts status =
    if status == 400 then json_parts BadRequest (bad_body (codes "malformed"))
    else if status == 413 then json_parts ContentTooLarge (bad_body (codes "body-too-large"))
    else if status == 431 then json_parts HeadTooLarge (bad_body (codes "head-too-large"))
    else json_parts NotImplemented (bad_body (codes "coding"))

unfoldable pub bad_text : ℕ → List ℕ
bad_text status = written (bad_parts status) true

-- what a client that waits is told before it sends a body (RFC 9110, section 15.2.1)
abbrev pub interim_text : List ℕ
interim_text = codes "HTTP/1.1 100 Continue" ++ end_of_line ++ end_of_line

abbrev pub interim_due : Bool → List ℕ
interim_due waits = if waits then interim_text else []
