-- The plan that brings a folder to the tree of some entries, by the report of a scan. Our own. Read StandsFor, plan_steps and
-- PlansSo, and dues_at for what is written; the other words behind it say the same over a scan, for private clauses.
use Rattle.std.specs.Prelude.{ℕ, ◌≡◌, ◌&&◌, ◌||◌, not, Bool, true, false, if◌then◌else◌, List, [], ◌∷◌, ◌++◌, map, Option, None, Some, option_map, Result, Ok, Err, ⊤}
use Rattle.std.specs.FinMap as fin
use Rattle.std.specs.List.{AllByRecursion, IsDistinct, list_any}
use Rattle.std.specs.Ordering.{eq_by_cmp}
use Rattle.ids.specs.Key.{Objects}
use Rattle.tree_model.specs.DirectorySurvival.{is_under, is_within}
use Rattle.tree_model.specs.Path.{PathV, path_cmp}
use Rattle.tree_model.specs.Tree.{Tree}
use Rattle.tree_model.specs.declared.node.FileVersion.{FileVersion}
use Rattle.tree_model.specs.declared.node.Node.TheVariants as node
use Rattle.block_chunker.specs.declared.cuts.Cuts.{Cuts}
use Rattle.folder_side.specs.Folder.{Contents, at}
use Rattle.folder_side.specs.WorkingTree.{held_list}
use Rattle.folder_side.specs.declared.holding.Holding.TheVariants.{File}
use Rattle.folder_side.specs.declared.scan_report.Scan.{Scan}
use Rattle.folder_side.specs.declared.scan_report.Seen.{Seen}
use Rattle.folder_side.specs.declared.scan_report.Seen.TheVariants as seen
use Rattle.local_index.specs.OwnIds.{own_id}
use Rattle.local_index.specs.declared.index.Index.{Index}
use Rattle.local_index.specs.declared.index.Known.{Known}
use Rattle.object_graph.specs.Objects.{contents_of, node_of}
use Rattle.object_graph.specs.declared.entry.Entry.{Entry}
use Rattle.object_graph.specs.declared.entry.Entry.TheVariants as entry
use Rattle.sync_rules.specs.Checkout.{IsPlan, Step, first_blocked, is_alone, own_has, run}
use Rattle.sync_rules.specs.declared.fault.SyncFault.{SyncFault}
use Rattle.sync_rules.specs.declared.fault.SyncFault.TheVariants as fault
use Rattle.tree_checkout.specs.SecondLook.{LooksAs, LooksFirst, file_seen, is_dir_of}
use Rattle.tree_checkout.specs.declared.planning.Due.{Due}
use Rattle.tree_checkout.specs.declared.planning.DueNode.{DueNode}
use Rattle.tree_checkout.specs.declared.planning.DueNode.TheVariants as due
use Rattle.tree_checkout.specs.declared.planning.Plan.{Plan}

-- ---- a plan

-- the entries stand for a tree: each file has the bytes that its object has among these
abbrev pub StandsFor : Objects → fin.FinMap path_cmp Entry → Tree → Type 0
StandsFor objects entries tree = (path : PathV) → fin.get tree path ≡ option_map (node_of objects) (fin.get entries path)

-- which files are left alone
abbrev pub alone_at : Cuts → Contents → Index → fin.FinMap path_cmp Entry → (pushed : Bool) → PathV → Bool
alone_at cuts c index entries pushed path = is_alone cuts (at c path) (fin.get index.entries path) (fin.get entries path) pushed

-- these have their bytes already
abbrev pub AreAlike : Contents → (alone : PathV → Bool) → Tree → Type 0
AreAlike c alone tree = (path : PathV) (file : FileVersion) (bytes : List ℕ) → fin.get tree path ≡ Some (node.File file) → at c path ≡ Some (File bytes)
    → alone path ≡ true → file.bytes ≡ bytes

-- the steps of a plan, where each file has the bytes that its object has among these
abbrev pub node_step : Objects → PathV → DueNode → Step
node_step objects path due.Dir = Step.Made path
node_step objects path (due.File id) = Step.Wrote path (contents_of objects id)

abbrev pub due_step : Objects → Due → Step
due_step objects d = node_step objects d.path d.node

abbrev pub plan_steps : Objects → Plan → List Step
plan_steps objects plan = map Step.Removed plan.doomed ++ map (due_step objects) plan.writes

-- the first path that is blocked, or else a plan, whatever the bytes of the files are, with the stuck directories that the tree lacks
abbrev pub PlansSo : Cuts → Contents → Index → fin.FinMap path_cmp Entry → Bool → Result Plan SyncFault → Type 0
PlansSo cuts c index entries pushed (Ok plan) = (objects : Objects) (tree : Tree) → StandsFor objects entries tree
    → (first_blocked c (fin.entries tree) ≡ None)
    × (AreAlike c (alone_at cuts c index entries pushed) tree → IsPlan tree c (alone_at cuts c index entries pushed) (plan_steps objects plan))
    × (plan.held ≡ held_list tree c)
PlansSo cuts c index entries pushed (Err (fault.Blocked path)) = (objects : Objects) (tree : Tree) → StandsFor objects entries tree
    → first_blocked c (fin.entries tree) ≡ Some path
PlansSo cuts c index entries pushed (Err fault.NoMemory) = ⊤
PlansSo cuts c index entries pushed (Err _) = ⊥

-- why there is no plan, whatever was scanned: a path is blocked, or memory was wanting
abbrev pub IsPlanFault : SyncFault → Type 0
IsPlanFault (fault.Blocked path) = ⊤
IsPlanFault fault.NoMemory = ⊤
IsPlanFault _ = ⊥

-- ---- over a scan

-- what can't be removed lies below a path, or in a directory there
abbrev pub hides_in : Scan → PathV → Bool
hides_in scan path = list_any (is_under path) scan.skipped || list_any (is_within path) scan.nameless

abbrev pub is_dir_seen : Option Seen → Bool
is_dir_seen None = false
is_dir_seen (Some s) = is_dir_of s

abbrev pub is_stuck_in : Scan → PathV → Bool
is_stuck_in scan path = is_dir_seen (fin.get scan.paths path) && hides_in scan path

abbrev pub is_file_entry : Entry → Bool
is_file_entry entry.Dir = false
is_file_entry (entry.File id mode mtime modifier size) = true

abbrev pub blocks_in : Scan → PathV → Entry → Bool
blocks_in scan path e = (is_file_entry e && is_stuck_in scan path) || list_any (λ other. is_within other path) scan.skipped

abbrev pub first_blocked_in : Scan → List (PathV × Entry) → Option PathV
first_blocked_in scan [] = None
first_blocked_in scan (e ∷ entries) = if blocks_in scan e.0 e.1 then Some e.0 else first_blocked_in scan entries

-- the tree has there what is of the kind that was seen
abbrev pub keeps_in : Option Entry → Seen → Bool
keeps_in None s = false
keeps_in (Some entry.Dir) s = is_dir_of s
keeps_in (Some (entry.File id mode mtime modifier size)) s = not (is_dir_of s)

abbrev pub dooms : Scan → fin.FinMap path_cmp Entry → PathV → Seen → Bool
dooms scan entries path s = not (keeps_in (fin.get entries path) s) && not (is_dir_of s && hides_in scan path)

abbrev pub doomed_path : Scan → fin.FinMap path_cmp Entry → PathV × Seen → Option PathV
doomed_path scan entries e = if dooms scan entries e.0 e.1 then Some e.0 else None

-- a directory that can't be removed, and that the tree lacks
abbrev pub is_lacked_in : Option Entry → Bool
is_lacked_in None = true
is_lacked_in (Some e) = false

abbrev pub stays_in : Scan → fin.FinMap path_cmp Entry → PathV → Seen → Bool
stays_in scan entries path s = (is_dir_of s && hides_in scan path) && is_lacked_in (fin.get entries path)

abbrev pub held_path : Scan → fin.FinMap path_cmp Entry → PathV × Seen → Option PathV
held_path scan entries e = if stays_in scan entries e.0 e.1 then Some e.0 else None

-- what is due at a path
abbrev pub dir_due : Option Seen → PathV → List Due
dir_due (Some seen.Dir) path = []
dir_due (Some (seen.File blocks size)) path = record { path = path; node = due.Dir } ∷ []
dir_due None path = record { path = path; node = due.Dir } ∷ []

abbrev pub is_alone_in : Option Seen → Option Known → (id : List ℕ) → Bool → Bool
is_alone_in None was id pushed = false
is_alone_in (Some seen.Dir) was id pushed = false
is_alone_in (Some (seen.File blocks size)) was id pushed = own_has (own_id blocks size) was id pushed

abbrev pub due_of : Option Seen → Option Known → Bool → PathV → Entry → List Due
due_of s was pushed path entry.Dir = dir_due s path
due_of s was pushed path (entry.File id mode mtime modifier size) = if is_alone_in s was id pushed then [] else record { path = path; node = due.File id } ∷ []

abbrev pub dues_at : Scan → Index → Bool → PathV × Entry → List Due
dues_at scan index pushed e = due_of (fin.get scan.paths e.0) (fin.get index.entries e.0) pushed e.0 e.1

-- ---- what is to be there first

-- where something is written: a file that was seen, for a file, and else nothing
abbrev pub due_first : Scan → PathV → DueNode → Option Seen
due_first scan path due.Dir = None
due_first scan path (due.File id) = file_seen (fin.get scan.paths path)

abbrev pub LooksUndone : Cuts → Contents → Scan → Due → Type 0
LooksUndone cuts c scan d = LooksAs cuts (at c d.path) (due_first scan d.path d.node)

-- what is to go stands as it was scanned, and once that is gone, so does what stands where something is written
pub record LooksScanned (cuts : Cuts) (c : Contents) (scan : Scan) (plan : Plan) : Type 0 where
  pub gone_once : IsDistinct (eq_by_cmp path_cmp) plan.doomed
  pub gone : AllByRecursion (LooksFirst cuts c scan) plan.doomed
  pub due_once : IsDistinct (eq_by_cmp path_cmp) (map (λ (d : Due). d.path) plan.writes)
  pub due : AllByRecursion (LooksUndone cuts (run (map Step.Removed plan.doomed) c) scan) plan.writes
