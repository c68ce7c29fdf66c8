-- The paths at which a scan and an index differ. Our own. Read change_at, then AreChanges.
use Rattle.std.specs.Prelude.{◌≡◌, Bool, true, false, not, List, [], ◌∷◌, map, Option, Some, None, if◌then◌else◌}
use Rattle.std.specs.Str.{bytes_eq}
use Rattle.std.specs.FinMap as fin
use Rattle.std.specs.List.Sorted.{IsStrictlySortedBy}
use Rattle.std.specs.Ordering.{eq_by_cmp}
use Rattle.tree_model.specs.Path.{PathV, path_cmp}
use Rattle.folder_side.specs.declared.scan_report.Seen.{Seen}
use Rattle.folder_side.specs.declared.scan_report.Seen.TheVariants as seen
use Rattle.local_index.specs.OwnIds.{own_id}
use Rattle.local_index.specs.declared.scan_changes.Change.{Change}
use Rattle.local_index.specs.declared.scan_changes.ChangeKind.{ChangeKind}
use Rattle.local_index.specs.declared.scan_changes.ChangeKind.TheVariants.{Added, Changed, Gone}
use Rattle.local_index.specs.declared.index.Known.{Known}
use Rattle.local_index.specs.declared.index.Known.TheVariants as known

-- two entries differ in their kinds, or as files in the ids that this project's cuts give them
abbrev pub differs : Seen → Known → Bool
differs seen.Dir known.Dir = false
differs seen.Dir (known.File id own size mode mtime modifier) = true
differs (seen.File blocks size) known.Dir = true
differs (seen.File blocks size) (known.File id own known_size mode mtime modifier) = not (bytes_eq (own_id blocks size) own)

-- how what was seen differs from what was known, if it does
abbrev pub change_of : Option Seen → Option Known → Option ChangeKind
change_of None None = None
change_of (Some s) None = Some Added
change_of None (Some k) = Some Gone
change_of (Some s) (Some k) = if differs s k then Some Changed else None

abbrev pub change_at : fin.FinMap path_cmp Seen → fin.FinMap path_cmp Known → PathV → Option ChangeKind
change_at seen_paths entries path = change_of (fin.get seen_paths path) (fin.get entries path)

-- what a list of changes says of a path
abbrev pub told_at : PathV → List Change → Option ChangeKind
told_at path [] = None
told_at path (change ∷ changes) = if eq_by_cmp path_cmp path change.path then Some change.kind else told_at path changes

-- every path that differs is in the list with how it differs, no other path is, and each path stands before those
-- behind it
pub record AreChanges (seen_paths : fin.FinMap path_cmp Seen) (entries : fin.FinMap path_cmp Known) (changes : List Change) : Type 0 where
  pub each : (path : PathV) → told_at path changes ≡ change_at seen_paths entries path
  pub ordered : IsStrictlySortedBy path_cmp (map (λ change. change.path) changes)
