-- The visible tree of a folder, its stuck directories, and what a checkout leaves. Our own. Read held_at, then left_at.
use Rattle.std.specs.Prelude.{◌≡◌, ◌↔◌, ℕ, ◌&&◌, ◌||◌, Bool, if◌then◌else◌, List, length, nat_lt, Option, Some, None, option_and_then}
use Rattle.std.specs.Option.{option_map}
use Rattle.std.specs.List.{filter_map, list_any}
use Rattle.std.specs.FinMap as map
use Rattle.block_chunker.specs.declared.cuts.Cuts.{Cuts}
use Rattle.tree_model.specs.Path.{PathV}
use Rattle.tree_model.specs.Tree.{Tree}
use Rattle.tree_model.specs.declared.node.Node.{Node}
use Rattle.tree_model.specs.declared.node.Node.TheVariants as node
use Rattle.tree_model.specs.DirectorySurvival.{is_within, is_under}
use Rattle.folder_side.specs.declared.holding.Holding.{Holding}
use Rattle.folder_side.specs.declared.holding.Holding.TheVariants.{Dir, File, Other}
use Rattle.folder_side.specs.declared.scan_report.Seen.{Seen}
use Rattle.folder_side.specs.declared.scan_report.Seen.TheVariants as seen
use Rattle.folder_side.specs.Folder.{Contents, at, is_other, is_dir, nameless_at}
use Rattle.folder_side.specs.ScanReport.{block_names}

-- a directory or a file by its bytes alone
pub data PlainNode : Type 0 where
  PlainDir : PlainNode
  PlainFile : List ℕ → PlainNode

abbrev pub plain_node : Node → PlainNode
plain_node node.Dir = PlainDir
plain_node (node.File version) = PlainFile version.bytes

-- a tree without modes, times and authors
abbrev pub plain_at : Tree → PathV → Option PlainNode
plain_at tree path = option_map plain_node (map.get tree path)

abbrev pub held_of : Holding → Option PlainNode
held_of Dir = Some PlainDir
held_of (File bytes) = Some (PlainFile bytes)
held_of Other = None

-- what a folder visibly holds: its files and directories
abbrev pub held_at : Contents → PathV → Option PlainNode
held_at c path = option_and_then held_of (at c path)

-- what a scan sees of it: a file by the names of its chunks and its length
abbrev pub seen_as : Cuts → PlainNode → Seen
seen_as cuts PlainDir = seen.Dir
seen_as cuts (PlainFile bytes) = seen.File (block_names cuts bytes) (length bytes)

-- A directory is stuck where, at any depth, it has an entry that is neither a file nor a directory, or one
-- without a good name: it can't be removed
abbrev pub is_stuck : Contents → PathV → Bool
is_stuck c dir =
    is_dir (at c dir)
    && (list_any (λ entry. is_under dir entry.0 && is_other entry.1) (map.entries c.paths)
    || list_any (λ entry. is_within dir entry.0 && nat_lt 0 entry.1) (map.entries c.nameless))

-- one folder has the same entries as another, but for its files and directories
pub record KeepsHidden (old new : Contents) : Type 0 where
  pub others : (path : PathV) → (at new path ≡ Some Other) ↔ (at old path ≡ Some Other)
  pub nameless : (dir : PathV) → nameless_at new dir ≡ nameless_at old dir

-- where a tree is checked out the stuck directories stay beside its paths
abbrev pub with_stuck : Bool → Option PlainNode → Option PlainNode
with_stuck stuck (Some here) = Some here
with_stuck stuck None = if stuck then Some PlainDir else None

abbrev pub left_at : Tree → Contents → PathV → Option PlainNode
left_at tree c path = with_stuck (is_stuck c path) (plain_at tree path)

-- a folder that held `old` holds, after a checkout of the tree, the tree with the stuck directories
abbrev pub HoldsLeft : Tree → Contents → Contents → Type 0
HoldsLeft tree old new = (path : PathV) → held_at new path ≡ left_at tree old path

-- the stuck directories that a tree lacks, in byte order of path
abbrev pub lacked : Option Node → PathV → Option PathV
lacked None path = Some path
lacked (Some here) path = None

abbrev pub lacks : Tree → Contents → PathV × Holding → Option PathV
lacks tree c entry = if is_stuck c entry.0 then lacked (map.get tree entry.0) entry.0 else None

abbrev pub held_list : Tree → Contents → List PathV
held_list tree c = filter_map (lacks tree c) (map.entries c.paths)
