-- Which outcomes an order can have, whatever of them a reply shows. Our own, by what the calls of a library answer.
-- Read CanHave first, at the end.
use Rattle.std.specs.Prelude.{ℕ, ◌≡◌, Bool, true, false, ◌||◌, Some, List, map, ⊤}
use Rattle.std.specs.List.{list_all, list_any}
use Rattle.std.specs.Str.{bytes_eq}
use Rattle.ids.specs.declared.key.Kind.{Kind}
use Rattle.ids.specs.declared.key.Kind.TheVariants.{Commit, Fs, Block}
use Rattle.library_state.specs.declared.refusal.Refusal.{Refusal}
use Rattle.library_state.specs.declared.refusal.Refusal.TheVariants as refusal
use Rattle.library_state.specs.declared.reply.Reply.{Reply}
use Rattle.library_state.specs.declared.reply.Reply.TheVariants as reply
use Rattle.http_front.specs.declared.order.What.{What}
use Rattle.http_front.specs.declared.order.What.TheVariants as what
use Rattle.http_front.specs.declared.outcome.Outcome.{Outcome}
use Rattle.http_front.specs.declared.outcome.Outcome.TheVariants.{Version, Same, Plain, Packed, Collected, Refused}
use Rattle.http_front.specs.declared.row.Row.{Row}

-- ---- which refusals an order can have

-- a library is asked
abbrev pub asks_library : What → Bool
asks_library what.Version = false
asks_library _ = true

-- bytes are to be stored
abbrev pub stores : What → Bool
stores (what.Put key bytes) = true
stores (what.PutFs rows) = true
stores _ = false

-- a commit's bytes are to be stored
abbrev pub is_commit : Kind → Bool
is_commit Commit = true
is_commit Fs = false
is_commit Block = false

abbrev pub stores_commit : What → Bool
stores_commit (what.Put key bytes) = is_commit key.kind
stores_commit _ = false

-- the bytes of files and directories are to be stored
abbrev pub stores_fs : What → Bool
stores_fs (what.PutFs rows) = true
stores_fs _ = false

-- an object is looked for
abbrev pub seeks : What → Bool
seeks (what.Get key) = true
seeks (what.GetFs ids) = true
seeks (what.Ids server client) = true
seeks _ = false

-- a library is to take in a commit
abbrev pub is_update : What → Bool
is_update (what.Update commit) = true
is_update _ = false

-- the days of history are to be set
abbrev pub is_limit : What → Bool
is_limit (what.Limit days) = true
is_limit _ = false

-- a collection is asked for
abbrev pub asks_collection : What → Bool
asks_collection what.Collect = true
asks_collection _ = false

-- what one commit needs and another does not is asked for
abbrev pub asks_list : What → Bool
asks_list (what.Ids server client) = true
asks_list _ = false

-- stored trees are walked: those of the commits of an update, of a list, or that a collection keeps
abbrev pub walks : What → Bool
walks order = is_update order || asks_list order || asks_collection order

-- whether an order can be refused so
abbrev pub can_refuse : What → Refusal → Bool
can_refuse order refusal.NoLibrary = asks_library order
can_refuse order refusal.NoCall = true
can_refuse order refusal.BadMethod = true
can_refuse order refusal.BadQuery = true
can_refuse order (refusal.BadBody at) = true
can_refuse order refusal.Denied = asks_library order
can_refuse order (refusal.NoObject key) = seeks order
can_refuse order (refusal.Wrong got) = stores order
can_refuse order (refusal.BadFs code) = stores_fs order
can_refuse order (refusal.BadCommit code) = stores_commit order
can_refuse order (refusal.OtherLibrary lib) = stores_commit order
can_refuse order (refusal.Taken id) = stores order || is_update order
can_refuse order (refusal.Stale last now) = is_update order
can_refuse order (refusal.Incomplete key) = walks order
can_refuse order (refusal.Unrelated count) = is_update order
can_refuse order (refusal.Unreadable key) = walks order
can_refuse order (refusal.WrongKind id) = walks order
can_refuse order (refusal.WrongSize id) = walks order
can_refuse order (refusal.TooDeep path) = walks order
can_refuse order (refusal.TooMany count) = walks order
can_refuse order (refusal.TooLong path size) = is_update order
can_refuse order (refusal.BadDays days) = is_limit order
can_refuse order (refusal.Damaged want got) = asks_library order
can_refuse order refusal.Store = asks_library order
can_refuse order refusal.Spent = asks_library order
can_refuse order refusal.NoMemory = true

-- ---- which answers

-- an id is among those that were asked for
abbrev pub is_among : List (List ℕ) → List ℕ → Bool
is_among asked id = list_any (λ other. bytes_eq other id) asked

-- each of the ids is
abbrev pub are_among : List (List ℕ) → List (List ℕ) → Bool
are_among asked ids = list_all (is_among asked) ids

abbrev pub row_id : Row → List ℕ
row_id row = row.id

-- what each answer is of

abbrev pub asks_version : What → Bool
asks_version what.Version = true
asks_version _ = false

abbrev pub asks_right : What → Bool
asks_right (what.Check op) = true
asks_right _ = false

abbrev pub asks_head : What → Bool
asks_head (what.Head tag) = true
asks_head _ = false

abbrev pub asks_object : What → Bool
asks_object (what.Get key) = true
asks_object _ = false

-- the head is asked for, and a tag is named
abbrev pub NamesTag : What → Type 0
NamesTag (what.Head (Some tag)) = ⊤
NamesTag _ = ⊥

-- the ids that name nothing were asked for
abbrev pub CanMiss : What → List (List ℕ) → Type 0
CanMiss (what.Missing kind ids) absent = are_among ids absent ≡ true
CanMiss _ absent = ⊥

-- the rows are those of the ids that were asked for, in this order
abbrev pub CanPack : What → List Row → Type 0
CanPack (what.GetFs ids) rows = map row_id rows ≡ ids
CanPack _ rows = ⊥

-- a call of a library can answer the order so
abbrev pub CanAnswer : What → Reply → Type 0
CanAnswer order reply.Checked = asks_right order ≡ true
CanAnswer order (reply.HeadIs id) = asks_head order ≡ true
CanAnswer order (reply.Got bytes) = asks_object order ≡ true
CanAnswer order (reply.Stored is_new) = stores order ≡ true
CanAnswer order (reply.Absent ids) = CanMiss order ids
CanAnswer order (reply.Updated id) = is_update order ≡ true
CanAnswer order reply.Limited = is_limit order ≡ true
CanAnswer order (reply.Listed ids) = asks_list order ≡ true
CanAnswer order (reply.Refused why) = can_refuse order why ≡ true

-- an order can have that outcome, with any tag
abbrev pub CanHave : What → Outcome → Type 0
CanHave order Version = asks_version order ≡ true
CanHave order (Same tag) = NamesTag order
CanHave order (Plain told tag) = CanAnswer order told
CanHave order (Packed rows) = CanPack order rows
CanHave order (Collected number removed) = asks_collection order ≡ true
CanHave order (Refused why) = can_refuse order why ≡ true
