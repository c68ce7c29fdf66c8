-- Whether what a scan saw is as a checkout leaves it that was interrupted, by the tables of a sync. Our own. Read IsSeenLeft; the words
-- behind it are of private clauses, by which one path after another is tested.
use Rattle.std.specs.Prelude.{ℕ, ◌≡◌, ◌||◌, Bool, true, false, List, Option, None, Some, is_some}
use Rattle.std.specs.FinMap as fin
use Rattle.std.specs.List.{list_all}
use Rattle.std.specs.Str.{bytes_eq}
use Rattle.tree_model.specs.Path.{PathV, path_cmp}
use Rattle.folder_side.specs.declared.scan_report.Seen.{Seen}
use Rattle.folder_side.specs.declared.scan_report.Seen.TheVariants as seen
use Rattle.local_index.specs.declared.index.Known.{Known}
use Rattle.local_index.specs.declared.index.Known.TheVariants as known
use Rattle.object_graph.specs.declared.entry.Entry.{Entry}
use Rattle.object_graph.specs.declared.entry.Entry.TheVariants as entry
use Rattle.sync_rules.specs.InterruptedCheckout.{is_left, is_removed}
use Rattle.tree_push.specs.ChangedOwns.{Owns}
use Rattle.tree_push.specs.OfferedEntries.{KnownPaths, SeenPaths}

abbrev pub EntryPaths : Type 0
EntryPaths = fin.FinMap path_cmp Entry

-- each path is so, by the entries of the head's tree
abbrev pub IsSeenLeft : SeenPaths → KnownPaths → EntryPaths → Type 0
IsSeenLeft seens knowns entries = (path : PathV) → is_left (fin.get seens path) (fin.get knowns path) (fin.get entries path) ≡ true

-- ---- what was seen, by the own ids of the files that are new or changed

abbrev pub is_known_dir : Option Known → Bool
is_known_dir None = false
is_known_dir (Some known.Dir) = true
is_known_dir (Some (known.File id own size mode mtime modifier)) = false

abbrev pub is_dir_there : Option Entry → Bool
is_dir_there None = false
is_dir_there (Some entry.Dir) = true
is_dir_there (Some (entry.File id mode mtime modifier size)) = false

-- the tree has a file there, whose id is this own id
abbrev pub is_file_there : (own : List ℕ) → Option Entry → Bool
is_file_there own None = false
is_file_there own (Some entry.Dir) = false
is_file_there own (Some (entry.File id mode mtime modifier size)) = bytes_eq own id

-- a file without an own id is as it is known
abbrev pub is_left_file : (changed : Option (List ℕ)) → Option Entry → Bool
is_left_file None there = true
is_left_file (Some own) there = is_file_there own there

abbrev pub is_left_seen : Seen → Option Known → (changed : Option (List ℕ)) → Option Entry → Bool
is_left_seen seen.Dir was changed there = is_known_dir was || is_dir_there there
is_left_seen (seen.File blocks size) was changed there = is_left_file changed there

abbrev pub are_left_seen : SeenPaths → KnownPaths → Owns → EntryPaths → Bool
are_left_seen seens knowns owns entries =
    list_all (λ item. is_left_seen item.1 (fin.get knowns item.0) (fin.get owns item.0) (fin.get entries item.0)) (fin.entries seens)

-- ---- what is known

abbrev pub is_left_known : Option Seen → Known → Option Entry → Bool
is_left_known here was there = is_some here || is_removed was there

abbrev pub are_left_known : SeenPaths → KnownPaths → EntryPaths → Bool
are_left_known seens knowns entries = list_all (λ item. is_left_known (fin.get seens item.0) item.1 (fin.get entries item.0)) (fin.entries knowns)
