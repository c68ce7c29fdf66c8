-- What a library tells to lack of the ids that are asked about, noted by key. Our own. Read NotesLacked, then AsksNoting.
use Rattle.std.specs.Prelude.{ℕ, ◌≡◌, ◌||◌, Bool, List, map, is_some, Result, Ok, Err, ⊤}
use Rattle.std.specs.FinMap as fin
use Rattle.ids.specs.Key.{key_cmp}
use Rattle.ids.specs.declared.key.Key.{Key}
use Rattle.ids.specs.declared.key.Kind.{Kind}
use Rattle.library_state.specs.declared.reply.Reply.{Reply}
use Rattle.library_state.specs.declared.reply.Reply.TheVariants as reply
use Rattle.object_graph.specs.Traversal.{is_in}
use Rattle.remote_calls.specs.Sends.{Sent}
use Rattle.sync_rules.specs.Named.{keys_lacked}
use Rattle.sync_rules.specs.declared.fault.SyncFault.{SyncFault}
use Rattle.sync_rules.specs.declared.fault.SyncFault.TheVariants as fault
use Rattle.tree_push.specs.Asking.{AsksIds, key_of}
use Rattle.tree_push.specs.declared.asking.Library.{Library}

abbrev pub Keys : Type 0
Keys = fin.FinMap key_cmp ⊤

abbrev pub has_key : {V : Type 0} → fin.FinMap key_cmp V → Key → Bool
has_key table key = is_some (fin.get table key)

-- what these sends were told to be lacking is noted, beside what was before, and nothing else
abbrev pub NotesLacked : (old new : Keys) → List Sent → Type 0
NotesLacked old new more = (key : Key) → has_key new key ≡ (has_key old key || is_in (keys_lacked more) key)

-- these ids were asked about, and what is lacking of them is noted
abbrev pub AsksNoting : Library → Kind → (ids : List (List ℕ)) → (old new : Keys) → List Sent → Type 0
AsksNoting library kind ids old new more = AsksIds library kind ids more × NotesLacked old new more

-- ---- for private clauses

-- these ids are noted, beside what was before
abbrev pub NotesIds : Kind → List (List ℕ) → (old new : Keys) → Result ⊤ SyncFault → Type 0
NotesIds kind ids old new (Ok x) = (key : Key) → has_key new key ≡ (has_key old key || is_in (map (key_of kind) ids) key)
NotesIds kind ids old new (Err f) = f ≡ fault.NoMemory

-- those of a reply are
abbrev pub NotesSo : Kind → Reply → (old new : Keys) → Result ⊤ SyncFault → Type 0
NotesSo kind (reply.Absent ids) old new result = NotesIds kind ids old new result
NotesSo kind (reply.Refused why) old new result = result ≡ Err (fault.Refused why)
NotesSo kind _ old new result = ⊥
