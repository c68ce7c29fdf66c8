-- What a merge decides at one path, and at all paths of its trees. Our own. Read IsPlaced, then IsDecided.
use Rattle.std.specs.Prelude.{◌≡◌, ◌+◌, ◌≤◌, ◌&&◌, ◌||◌, Bool, false, not, if◌then◌else◌, Some, None, is_some, option_map, ⊤}
use Rattle.std.specs.Option.{option_or}
use Rattle.std.specs.FinMap as map
use Rattle.std.specs.Ordering.{eq_by_cmp}
use Rattle.ids.specs.Key.{Objects}
use Rattle.tree_model.specs.declared.node.Node.TheVariants as tree_node
use Rattle.tree_model.specs.Path.{PathV, path_cmp, parent_of}
use Rattle.tree_model.specs.FileMerge.{Choice, choice}
use Rattle.tree_model.specs.DirectorySurvival.{Sides}
use Rattle.tree_model.specs.ConflictCopies.{in_trees, leaver_at}
use Rattle.tree_model.specs.ThreeWayMerge.{node_at}
use Rattle.object_graph.specs.Objects.{node_of}
use Rattle.tree_merge.specs.FileChoice.{IsWholeIf}
use Rattle.tree_merge.specs.FileEntry.{file_in, is_directory, version_of}
use Rattle.tree_merge.specs.Sides.{Entries}
use Rattle.tree_merge.specs.declared.file_entry.FileEntry.{FileEntry}
use Rattle.tree_merge.specs.declared.decision.Decided.{Decided}
use Rattle.tree_merge.specs.declared.decision.Placing.{Placing}
use Rattle.tree_merge.specs.declared.sides.Three.{Three}

-- the choice of the three files
abbrev pub choice_in : Objects → Three → Choice
choice_in objects three =
    choice (option_map (version_of objects) (file_in three.base)) (option_map (version_of objects) (file_in three.head)) (option_map (version_of objects) (file_in three.pushed))

-- a directory of head and of pushed, or of one of them and not of base
abbrev pub kept_by : Three → Bool
kept_by three =
    (is_directory three.head && is_directory three.pushed) || ((is_directory three.head || is_directory three.pushed) && not (is_directory three.base))

-- what stands at a path, which file leaves it, and whether the directory above survives by it
pub record IsPlaced (objects : Objects) (files : Choice) (stays : Bool) (placing : Placing) : Type 0 where
  pub node : option_map (node_of objects) placing.node ≡ (if stays then Some tree_node.Dir else option_map tree_node.File files.main)
  pub leaver : option_map (version_of objects) placing.leaver ≡ option_or files.side (if stays then files.main else None)
  pub keeps : placing.keeps ≡ ((is_some files.main || is_some files.side) || stays)

abbrev pub Marks : Type 0
Marks = map.FinMap path_cmp ⊤

-- the files of the placing are stored whole
abbrev pub IsWholePlacing : Objects → Placing → Type 0
IsWholePlacing objects placing = IsWholeIf objects (file_in placing.node) × IsWholeIf objects placing.leaver

-- so are those of a table
abbrev pub AreWholeIn : Objects → Entries → Type 0
AreWholeIn objects entries = (path : PathV) → IsWholeIf objects (file_in (map.get entries path))

abbrev pub AreWholeFiles : Objects → map.FinMap path_cmp FileEntry → Type 0
AreWholeFiles objects files = (path : PathV) → IsWholeIf objects (map.get files path)

-- and so are those that were decided
pub record IsWholeDecided (objects : Objects) (decided : Decided) : Type 0 where
  pub nodes : AreWholeIn objects decided.nodes
  pub leavers : AreWholeFiles objects decided.leavers

-- what is decided at a path is written down, and what was written down of other paths stays
pub record HasSettled (path : PathV) (placing : Placing) (before after : Marks) (old new : Decided) : Type 0 where
  pub marks : (q : PathV) → is_some (map.get after q) ≡ (is_some (map.get before q) || (placing.keeps && eq_by_cmp path_cmp q (parent_of path)))
  pub nodes : (q : PathV) → map.get new.nodes q ≡ (if eq_by_cmp path_cmp q path then option_or placing.node (map.get old.nodes q) else map.get old.nodes q)
  pub leavers : (q : PathV) → map.get new.leavers q ≡ (if eq_by_cmp path_cmp q path then option_or placing.leaver (map.get old.leavers q) else map.get old.leavers q)
  pub known : new.known ≡ map.insert old.known path tt

-- one path more was decided
pub record HasGrown (path : PathV) (old new : Decided) : Type 0 where
  pub others : (q : PathV) → eq_by_cmp path_cmp q path ≡ false → map.get new.leavers q ≡ map.get old.leavers q
  pub leavers : map.len new.leavers ≤ map.len old.leavers + 1
  pub known : map.len new.known ≤ map.len old.known + 1

-- one path is decided, where the marks tell whether an entry of its own makes a directory survive there
pub record IsDecidedAt (objects : Objects) (path : PathV) (three : Three) (before after : Marks) (old new : Decided) : Type 0 where
  pub placing : Placing
  pub placed : IsPlaced objects (choice_in objects three) (kept_by three || is_some (map.get before path)) placing
  pub settled : HasSettled path placing before after old new

-- at a path of the trees the directory that survives or the main file stands, and the file that leaves it is told
pub record IsDecided (objects : Objects) (s : Sides) (decided : Decided) : Type 0 where
  pub nodes : (q : PathV) → option_map (node_of objects) (map.get decided.nodes q) ≡ (if in_trees s q then node_at s q else None)
  pub leavers : (q : PathV) → option_map (version_of objects) (map.get decided.leavers q) ≡ (if in_trees s q then leaver_at s q else None)
  pub known : (q : PathV) → is_some (map.get decided.known q) ≡ in_trees s q
