-- The own ids of the files that are new or changed, made once for a whole push, and what the others have in their place. Our own. Read
-- AreChangedOwns first.
use Rattle.std.specs.Prelude.{◌≡◌, ℕ, Bool, true, false, List, [], ◌∷◌, Option, None, Some}
use Rattle.std.specs.FinMap as fin
use Rattle.ids.specs.ObjectId.{nil}
use Rattle.tree_model.specs.Path.{PathV, path_cmp}
use Rattle.object_graph.specs.declared.entry.Entry.{Entry}
use Rattle.object_graph.specs.declared.entry.Entry.TheVariants as entry
use Rattle.folder_side.specs.declared.scan_report.Seen.{Seen}
use Rattle.folder_side.specs.declared.scan_report.Seen.TheVariants as seen
use Rattle.local_index.specs.OwnIds.{own_id}
use Rattle.local_index.specs.declared.index.Known.{Known}
use Rattle.local_index.specs.declared.index.Known.TheVariants as known
use Rattle.local_index.specs.declared.scan_changes.Change.{Change}
use Rattle.tree_push.specs.OfferedEntries.{KnownPaths, SeenPaths, file_entry, is_kept}

abbrev pub Owns : Type 0
Owns = fin.FinMap path_cmp (List ℕ)

-- an own id, unless the file is kept as it is known
abbrev pub own_unless : (kept : Bool) → (own : List ℕ) → Option (List ℕ)
own_unless true own = None
own_unless false own = Some own

-- the own id of what was seen, if that is a file that is new or changed
abbrev pub changed_own : Option Seen → Option Known → Option (List ℕ)
changed_own None was = None
changed_own (Some seen.Dir) was = None
changed_own (Some (seen.File blocks size)) was = own_unless (is_kept was (own_id blocks size)) (own_id blocks size)

-- at the path of each file that is new or changed stands its own id, and nothing stands elsewhere
abbrev pub AreChangedOwns : KnownPaths → SeenPaths → Owns → Type 0
AreChangedOwns knowns seens owns = (path : PathV) → fin.get owns path ≡ changed_own (fin.get seens path) (fin.get knowns path)

-- the own id of a file: that of one that is new or changed, or else the one that is known
abbrev pub known_own : Option Known → List ℕ
known_own None = nil
known_own (Some known.Dir) = nil
known_own (Some (known.File id own size mode mtime modifier)) = own

abbrev pub own_or_known : (changed : Option (List ℕ)) → Option Known → List ℕ
own_or_known None was = known_own was
own_or_known (Some own) was = own

-- ---- for private clauses

-- the entry that is offered of what was seen, a file's by such an own id
abbrev pub entry_by : (moment : ℕ) → (user : List ℕ) → (changed : Option (List ℕ)) → Option Known → Seen → Entry
entry_by moment user changed was seen.Dir = entry.Dir
entry_by moment user changed was (seen.File blocks size) = file_entry moment user was (own_or_known changed was) size

-- own ids, and that of what was seen at a path, if that is a file
abbrev pub with_own : Owns → PathV → Option Seen → Owns
with_own owns path None = owns
with_own owns path (Some seen.Dir) = owns
with_own owns path (Some (seen.File blocks size)) = fin.insert owns path (own_id blocks size)

-- and those of what was seen at the paths of changes
abbrev pub with_changes : Owns → SeenPaths → List Change → Owns
with_changes owns seens [] = owns
with_changes owns seens (change ∷ changes) = with_changes (with_own owns change.path (fin.get seens change.path)) seens changes
