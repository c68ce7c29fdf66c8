-- For private clauses: the refusal that a JSON value tells, reason by reason. Read first: RefusalReading.
use Rattle.std.specs.Prelude.{ℕ, ℤ, pos, negsuc, ◌==◌, ◌&&◌, Option, None, Some, List, [], codes, length, if◌then◌else◌, option_map}
use Rattle.std.specs.Option.{option_and_then}
use Rattle.std.specs.Result.{result_ok}
use Rattle.std.specs.Str.{bytes_eq}
use Rattle.ids.specs.Kind.{kind_of}
use Rattle.ids.specs.declared.key.Key.{Key}
use Rattle.ids.specs.declared.key.Kind.{Kind}
use Rattle.serde_json.specs.Data.{Data, null, string}
use Rattle.serde_json.specs.Find.{get}
use Rattle.json_words.specs.Fields.{integer_field, number_field, text_field}
use Rattle.json_words.specs.IdText.{library_id_of, object_id_of}
use Rattle.tree_model.specs.Path.{PathV, path_of}
use Rattle.library_state.specs.declared.refusal.Refusal.{Refusal}
use Rattle.library_state.specs.declared.refusal.Refusal.TheVariants as refusal
use Rattle.http_front.specs.RefusalText.{refused_status}
use Rattle.http_front.specs.declared.order.What.{What}
use Rattle.http_front.specs.declared.outcome.Outcome.{Outcome}
use Rattle.http_front.specs.declared.outcome.Outcome.TheVariants.{Refused}
use Rattle.http_front.specs.declared.status.Status.{Status}
use Rattle.http_client.specs.OrderOutcome.{can_refuse}
use Rattle.http_client.specs.ReplyHead.{status_number}

-- ---- what a member tells

abbrev pub text_at : List ℕ → Data → Option (List ℕ)
text_at name d = result_ok (text_field name d)

abbrev pub number_at : List ℕ → Data → Option ℕ
number_at name d = result_ok (number_field name d)

-- the number itself, where it is below zero or a natural number too
abbrev pub if_whole : ℤ → Option ℕ → Option ℤ
if_whole (pos n) None = None
if_whole (pos n) (Some m) = Some (pos n)
if_whole (negsuc n) natural = Some (negsuc n)

abbrev pub integer_at : List ℕ → Data → Option ℤ
integer_at name d = option_and_then (λ n. if_whole n (number_at name d)) (result_ok (integer_field name d))

abbrev pub id_at : List ℕ → Data → Option (List ℕ)
id_at name d = option_and_then object_id_of (text_at name d)

abbrev pub library_at : List ℕ → Data → Option (List ℕ)
library_at name d = option_and_then library_id_of (text_at name d)

abbrev pub key_of : Kind → List ℕ → Key
key_of kind id = record { kind = kind; id = id }

-- the key of an object, by its kind and its id
abbrev pub key_at : Data → Option Key
key_at d = option_and_then (λ kind. option_map (key_of kind) (id_at (codes "id") d)) (option_and_then kind_of (text_at (codes "kind") d))

-- the path that a text names. The text of the root has no bytes
abbrev pub named_path : List ℕ → Option PathV
named_path text = if length text == 0 then Some [] else path_of text

abbrev pub path_at : Data → Option PathV
path_at d = option_and_then named_path (text_at (codes "path") d)

-- an id, or that there is none, as null says
abbrev pub id_or_none : Data → Option (Option (List ℕ))
id_or_none null = Some None
id_or_none (string text) = option_map Some (object_id_of text)
id_or_none _ = None

abbrev pub got_at : Data → Option (Option (List ℕ))
got_at d = option_and_then id_or_none (get (codes "got") d)

-- ---- the refusals, by what they tell besides their reason

abbrev pub or_else : {A : Type 0} → Option A → Option A → Option A
or_else (Some a) other = Some a
or_else None other = other

-- nothing
abbrev pub plain_of : List ℕ → Option Refusal
plain_of reason =
    if bytes_eq reason (codes "no-library") then Some refusal.NoLibrary
    else if bytes_eq reason (codes "no-call") then Some refusal.NoCall
    else if bytes_eq reason (codes "method") then Some refusal.BadMethod
    else if bytes_eq reason (codes "bad-query") then Some refusal.BadQuery
    else if bytes_eq reason (codes "denied") then Some refusal.Denied
    else if bytes_eq reason (codes "store") then Some refusal.Store
    else if bytes_eq reason (codes "spent") then Some refusal.Spent
    else if bytes_eq reason (codes "no-memory") then Some refusal.NoMemory
    else None

abbrev pub stale_in : Data → Option Refusal
stale_in d = option_and_then (λ last. option_map (refusal.Stale last) (number_at (codes "now") d)) (number_at (codes "last") d)

-- numbers
abbrev pub counted_of : List ℕ → Data → Option Refusal
counted_of reason d =
    if bytes_eq reason (codes "bad-body") then option_map refusal.BadBody (number_at (codes "at") d)
    else if bytes_eq reason (codes "bad-fs") then option_map refusal.BadFs (number_at (codes "code") d)
    else if bytes_eq reason (codes "bad-commit") then option_map refusal.BadCommit (number_at (codes "code") d)
    else if bytes_eq reason (codes "unrelated") then option_map refusal.Unrelated (number_at (codes "count") d)
    else if bytes_eq reason (codes "too-many") then option_map refusal.TooMany (number_at (codes "count") d)
    else if bytes_eq reason (codes "stale") then stale_in d
    else if bytes_eq reason (codes "bad-days") then option_map refusal.BadDays (integer_at (codes "days") d)
    else None

-- the key of an object
abbrev pub keyed_of : List ℕ → Data → Option Refusal
keyed_of reason d =
    if bytes_eq reason (codes "no-object") then option_map refusal.NoObject (key_at d)
    else if bytes_eq reason (codes "incomplete") then option_map refusal.Incomplete (key_at d)
    else if bytes_eq reason (codes "unreadable") then option_map refusal.Unreadable (key_at d)
    else None

abbrev pub damaged_in : Data → Option Refusal
damaged_in d = option_and_then (λ want. option_map (refusal.Damaged want) (got_at d)) (id_at (codes "want") d)

-- ids
abbrev pub named_of : List ℕ → Data → Option Refusal
named_of reason d =
    if bytes_eq reason (codes "wrong") then option_map refusal.Wrong (id_at (codes "got") d)
    else if bytes_eq reason (codes "taken") then option_map refusal.Taken (id_at (codes "id") d)
    else if bytes_eq reason (codes "wrong-kind") then option_map refusal.WrongKind (id_at (codes "id") d)
    else if bytes_eq reason (codes "wrong-size") then option_map refusal.WrongSize (id_at (codes "id") d)
    else if bytes_eq reason (codes "other-library") then option_map refusal.OtherLibrary (library_at (codes "lib") d)
    else if bytes_eq reason (codes "damaged") then damaged_in d
    else None

abbrev pub too_long_in : Data → Option Refusal
too_long_in d = option_and_then (λ path. option_map (refusal.TooLong path) (number_at (codes "length") d)) (path_at d)

-- a path
abbrev pub located_of : List ℕ → Data → Option Refusal
located_of reason d =
    if bytes_eq reason (codes "too-deep") then option_map refusal.TooDeep (path_at d)
    else if bytes_eq reason (codes "too-long") then too_long_in d
    else None

-- the refusal for a reason, with what the value tells besides it
abbrev pub refusal_for : Data → List ℕ → Option Refusal
refusal_for d reason =
    or_else (plain_of reason) (or_else (counted_of reason d) (or_else (keyed_of reason d) (or_else (named_of reason d) (located_of reason d))))

-- the refusal that a value tells
unfoldable pub refusal_in : Data → Option Refusal
refusal_in d = option_and_then (refusal_for d) (text_at (codes "reason") d)

-- the refusal, where it comes with this status and the order can be refused so
abbrev pub if_due : What → Status → Refusal → Option Outcome
if_due order status why = if (status_number (refused_status why) == status_number status) && can_refuse order why then Some (Refused why) else None
