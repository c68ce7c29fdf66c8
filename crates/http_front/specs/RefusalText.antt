-- The status and the body of each refusal. Bodies are JSON texts (RFC 8259) without blanks and with sorted keys; their
-- members are our own. Read refused_data first.
use Rattle.std.specs.Prelude.{ℕ, ℤ, List, Option, None, Some, codes}
use Rattle.hex.specs.Hex.{encode_lower}
use Rattle.uuid.specs.Text.{hyphenated_text, lower}
use Rattle.serde_json.specs.Data.{Data, null, number, unsigned, string, object, Members, member, no_members}
use Rattle.serde_json.specs.Find.{of_integer}
use Rattle.serde_json.specs.Written.{compact_text}
use Rattle.tree_model.specs.Path.{PathV, path_text}
use Rattle.ids.specs.declared.key.Key.{Key}
use Rattle.library_state.specs.declared.refusal.Refusal.{Refusal}
use Rattle.library_state.specs.declared.refusal.Refusal.TheVariants as refusal
use Rattle.ids.specs.Kind.{kind_word}
use Rattle.http_front.specs.declared.status.Status.{Status}
use Rattle.http_front.specs.declared.status.Status.TheVariants as status

-- the last member of each body
abbrev pub because : List ℕ → Members
because reason = member (codes "reason") (string reason) no_members

-- the body that has a reason alone
abbrev pub reason_data : List ℕ → Data
reason_data reason = object (because reason)

-- the bodies that tell one thing more: an id, the key of an object, a number
abbrev pub told_id : List ℕ → List ℕ → Data
told_id id reason = object (member (codes "id") (string (encode_lower id)) (because reason))

abbrev pub got_data : List ℕ → List ℕ → Data
got_data got reason = object (member (codes "got") (string (encode_lower got)) (because reason))

abbrev pub lib_data : List ℕ → List ℕ → Data
lib_data lib reason = object (member (codes "lib") (string (hyphenated_text lower lib)) (because reason))

abbrev pub key_data : Key → List ℕ → Data
key_data key reason = object (member (codes "id") (string (encode_lower key.id)) (member (codes "kind") (string (kind_word key.kind)) (because reason)))

abbrev pub at_data : ℕ → List ℕ → Data
at_data at reason = object (member (codes "at") (number (unsigned at)) (because reason))

abbrev pub code_data : ℕ → List ℕ → Data
code_data code reason = object (member (codes "code") (number (unsigned code)) (because reason))

abbrev pub count_data : ℕ → List ℕ → Data
count_data count reason = object (member (codes "count") (number (unsigned count)) (because reason))

abbrev pub days_data : ℤ → List ℕ → Data
days_data days reason = object (member (codes "days") (number (of_integer days)) (because reason))

abbrev pub path_data : PathV → List ℕ → Data
path_data path reason = object (member (codes "path") (string (path_text path)) (because reason))

-- the bodies that tell two things more
abbrev pub stale_data : ℕ → ℕ → Data
stale_data last now = object (member (codes "last") (number (unsigned last)) (member (codes "now") (number (unsigned now)) (because (codes "stale"))))

abbrev pub long_data : PathV → ℕ → Data
long_data path size = object (member (codes "length") (number (unsigned size)) (member (codes "path") (string (path_text path)) (because (codes "too-long"))))

-- the digits of an id, or null for none
abbrev pub id_or_null : Option (List ℕ) → Data
id_or_null None = null
id_or_null (Some id) = string (encode_lower id)

abbrev pub damaged_data : List ℕ → Option (List ℕ) → Data
damaged_data want got =
    object (member (codes "got") (id_or_null got) (member (codes "reason") (string (codes "damaged")) (member (codes "want") (string (encode_lower want)) no_members)))

-- the body of a refusal, as a JSON value
abbrev pub refused_data : Refusal → Data
refused_data refusal.NoLibrary = reason_data (codes "no-library")
refused_data refusal.NoCall = reason_data (codes "no-call")
refused_data refusal.BadMethod = reason_data (codes "method")
refused_data refusal.BadQuery = reason_data (codes "bad-query")
refused_data (refusal.BadBody at) = at_data at (codes "bad-body")
refused_data refusal.Denied = reason_data (codes "denied")
refused_data (refusal.NoObject key) = key_data key (codes "no-object")
refused_data (refusal.Wrong got) = got_data got (codes "wrong")
refused_data (refusal.BadFs code) = code_data code (codes "bad-fs")
refused_data (refusal.BadCommit code) = code_data code (codes "bad-commit")
refused_data (refusal.OtherLibrary lib) = lib_data lib (codes "other-library")
refused_data (refusal.Taken id) = told_id id (codes "taken")
refused_data (refusal.Stale last now) = stale_data last now
refused_data (refusal.Incomplete key) = key_data key (codes "incomplete")
refused_data (refusal.Unrelated count) = count_data count (codes "unrelated")
refused_data (refusal.Unreadable key) = key_data key (codes "unreadable")
refused_data (refusal.WrongKind id) = told_id id (codes "wrong-kind")
refused_data (refusal.WrongSize id) = told_id id (codes "wrong-size")
refused_data (refusal.TooDeep path) = path_data path (codes "too-deep")
refused_data (refusal.TooMany count) = count_data count (codes "too-many")
refused_data (refusal.TooLong path size) = long_data path size
refused_data (refusal.BadDays days) = days_data days (codes "bad-days")
refused_data (refusal.Damaged want got) = damaged_data want got
refused_data refusal.Store = reason_data (codes "store")
refused_data refusal.Spent = reason_data (codes "spent")
refused_data refusal.NoMemory = reason_data (codes "no-memory")

-- the body of a refusal
unfoldable pub refused_body : Refusal → List ℕ
refused_body r = compact_text (refused_data r)

abbrev pub refused_status : Refusal → Status
refused_status refusal.NoLibrary = status.NotFound
refused_status refusal.NoCall = status.NotFound
refused_status refusal.BadMethod = status.NotImplemented
refused_status refusal.BadQuery = status.BadRequest
refused_status (refusal.BadBody at) = status.BadRequest
refused_status refusal.Denied = status.Forbidden
refused_status (refusal.NoObject key) = status.NotFound
refused_status (refusal.Wrong got) = status.BadRequest
refused_status (refusal.BadFs code) = status.BadRequest
refused_status (refusal.BadCommit code) = status.BadRequest
refused_status (refusal.OtherLibrary lib) = status.BadRequest
refused_status (refusal.Taken id) = status.Conflict
refused_status (refusal.Stale last now) = status.Conflict
refused_status (refusal.Incomplete key) = status.Incomplete
refused_status (refusal.Unrelated count) = status.BadRequest
refused_status (refusal.Unreadable key) = status.BadRequest
refused_status (refusal.WrongKind id) = status.BadRequest
refused_status (refusal.WrongSize id) = status.BadRequest
refused_status (refusal.TooDeep path) = status.TooLarge
refused_status (refusal.TooMany count) = status.TooLarge
refused_status (refusal.TooLong path size) = status.TooLarge
refused_status (refusal.BadDays days) = status.BadRequest
refused_status (refusal.Damaged want got) = status.Damaged
refused_status refusal.Store = status.ServerError
refused_status refusal.Spent = status.Spent
refused_status refusal.NoMemory = status.Unavailable
