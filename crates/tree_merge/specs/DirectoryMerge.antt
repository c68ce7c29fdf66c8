-- The merge of three directories with all that lies below them. Our own. Read AreSidesOf, then IsMergedPart and IsNamedPart.
use Rattle.std.specs.Prelude.{◌≡◌, ◌≢◌, ◌⊎◌, ◌↔◌, ◌≤◌, ◌<◌, ℕ, Bool, true, false, not, List, [], ◌++◌, Option, Some, None, is_some, option_map, Result, Ok, Err}
use Rattle.std.specs.FinMap as map
use Rattle.std.specs.Option.{option_or}
use Rattle.ids.specs.Key.{Objects}
use Rattle.ids.specs.ObjectId.{nil}
use Rattle.ids.specs.declared.key.Key.{Key}
use Rattle.tree_model.specs.declared.limits.TheConstants.{MAX_PATHS}
use Rattle.tree_model.specs.Path.{PathV}
use Rattle.tree_model.specs.Tree.{Tree}
use Rattle.tree_model.specs.DirectorySurvival.{Sides, stays}
use Rattle.tree_model.specs.MergeParts.{IsFirst, copy_at, long_at, told_behind}
use Rattle.tree_model.specs.ThreeWayMerge.{merged}
use Rattle.conflict_names.specs.Naming.{naming}
use Rattle.object_store.specs.declared.error.StoreFault.TheVariants.{NoMemory}
use Rattle.object_graph.specs.Objects.{AreEntriesOf, dirents_at, entry_in, node_of}
use Rattle.object_graph.specs.Traversal.{IsCompleteRoot}
use Rattle.object_graph.specs.Unchanged.{Keeps}
use Rattle.tree_walk.specs.Extent.{extent_of}
use Rattle.tree_walk.specs.declared.fault.WalkFault.TheVariants.{Store}
use Rattle.tree_merge.specs.Decision.{AreWholeIn}
use Rattle.tree_merge.specs.HeadDirectory.{IsHeads}
use Rattle.tree_merge.specs.LevelMerge.{IsTakenBelow, ListsKnown}
use Rattle.tree_merge.specs.Opening.{HasEntry, dirents_if, id_in, ids_in, is_settled, part_in, paths_in, settled_in}
use Rattle.tree_merge.specs.Sides.{Entries, IsSeen}
use Rattle.tree_merge.specs.TreeBuilding.{HasMade, IsDirectoryOf, IsDirectoryText, IsNilOrMade, IsSound, directory_id_in}
use Rattle.tree_merge.specs.WorkSoFar.{copies_behind, long_told}
use Rattle.tree_merge.specs.declared.level.Trio.{Trio}
use Rattle.tree_merge.specs.declared.merging.MergeFault.{MergeFault}
use Rattle.tree_merge.specs.declared.merging.MergeFault.TheVariants.{TooLong, TooMany, Taken, Walk}
use Rattle.tree_merge.specs.declared.merging.Merged.{Merged}
use Rattle.tree_merge.specs.declared.opening.Ids.{Ids}
use Rattle.tree_merge.specs.declared.opening.Kept.{Kept}
use Rattle.tree_merge.specs.declared.opening.Opened.{Opened}
use Rattle.tree_merge.specs.declared.work.Stop.{Stop}
use Rattle.tree_merge.specs.declared.work.Stop.TheVariants as why
use Rattle.tree_merge.specs.declared.work.Work.{Work}

-- the tree below a directory, and none below none
abbrev pub IsSideOf : Objects → Option (List ℕ) → Tree → Type 0
IsSideOf objects id tree = (path : PathV) → map.get tree path ≡ option_map (node_of objects) (entry_in objects (dirents_if objects id) path)

pub record AreSidesOf (objects : Objects) (ids : Ids) (s : Sides) : Type 0 where
  pub base : IsSideOf objects ids.base s.base
  pub head : IsSideOf objects ids.head s.head
  pub pushed : IsSideOf objects ids.pushed s.pushed

-- What lies below a directory has its objects: those that were stored, and those that were made since `old`. `kept` are the
-- directories that stand by their stored ids: the settled ones among them, where the directory itself was opened, and those of the head that were used again.
pub record IsBuiltBelow (objects : Objects) (entries : Entries) (is_open : Bool) (ids : Ids) (old new : Objects) (root : List ℕ) : Type 0 where
  pub kept : PathV → Option (List ℕ)
  pub complete : (dir : PathV) (id : List ℕ) → kept dir ≡ Some id → IsCompleteRoot objects id
  pub known : (IsNilOrMade new root) ⊎ (kept [] ≡ Some root)
  pub top : (id : List ℕ) → kept [] ≡ Some id → (root ≡ id) × (id ≢ nil)
  pub own : is_open ≡ false → (id : List ℕ) → part_in ids ≡ Some id → (extent_of objects id).paths ≢ 0 → kept [] ≡ Some id
  pub value : (more : Objects) → Keeps objects more → Keeps new more → AreEntriesOf more root entries
  pub needed : (id : List ℕ) → id ≢ nil → HasMade new id → (HasMade old id) ⊎ ((more : Objects) → Keeps objects more → Keeps new more → IsDirectoryOf more root id)
  pub below : (key : Key) (bytes : List ℕ) → map.get new key ≡ Some bytes → (map.get old key ≡ Some bytes) ⊎ ListsKnown kept new bytes
  pub ids_kept : (dir : PathV) (id : List ℕ) → dir ≢ [] → kept dir ≡ Some id → (more : Objects) → Keeps objects more → Keeps new more
      → directory_id_in more (dirents_at more root) dir ≡ Some id
  pub same : is_open ≡ true → (dir : PathV) (id : List ℕ)
      → settled_in objects (dirents_if objects ids.base) (dirents_if objects ids.head) (dirents_if objects ids.pushed) dir ≡ Some id → (extent_of objects id).paths ≢ 0 → kept dir ≡ Some id
  pub heads : (more : Objects) → Keeps objects more → Keeps new more → IsHeads objects more ids.head root
  pub zeros : (root ≡ nil) ↔ ((path : PathV) → map.get entries path ≡ None)

-- what lies below three directories is merged, where no conflict name is too long: `entries` are the merged tree's
pub record IsNamedPart (objects : Objects) (path : PathV) (is_open : Bool) (ids : Ids) (s : Sides) (old new : Work) (part : Option Kept) : Type 0 where
  pub count : paths_in part ≡ map.len (merged naming s)
  pub copies : (q : PathV) → map.get new.copies q ≡ option_or (copies_behind path (copy_at naming s) q) (map.get old.copies q)
  pub entries : Entries
  pub sound : IsSound entries
  pub seen : (more : Objects) → Keeps objects more → IsSeen more entries (merged naming s)
  pub whole : AreWholeIn objects entries
  pub kept_made : Keeps old.made new.made
  pub texts : (key : Key) (bytes : List ℕ) → map.get new.made key ≡ Some bytes → (map.get old.made key ≡ Some bytes) ⊎ IsDirectoryText entries bytes
  pub taken : (id : List ℕ) → new.stop ≡ Some (why.Taken id) → (old.stop ≡ Some (why.Taken id)) ⊎ IsTakenBelow entries new.made id
  pub many : new.stop ≡ Some why.Many → (old.stop ≡ Some why.Many) ⊎ (MAX_PATHS < paths_in part)
  pub still : new.stop ≡ None → old.stop ≡ None
  pub built : new.stop ≡ None → IsBuiltBelow objects entries is_open ids old.made new.made (id_in part)

-- What lies below three directories is merged. Something is left exactly where something survives; of the files whose conflict
-- names are too long the first one is written down.
pub record IsMergedPart (objects : Objects) (path : PathV) (is_open : Bool) (ids : Ids) (s : Sides) (old new : Work) (part : Option Kept) : Type 0 where
  pub survives : is_some part ≡ stays s []
  pub long : (f : PathV → Option ℕ) → IsFirst f (long_told old.long) → IsFirst (λ q. option_or (f q) (told_behind path (long_at naming s) q)) (long_told new.long)
  pub named : long_told new.long ≡ None → IsNamedPart objects path is_open ids s old new part

-- of directories that were opened, and of those that are settled or were opened
abbrev pub MergesDirectory : Objects → PathV → Ids → (old new : Work) → Option Kept → Type 0
MergesDirectory objects path ids old new part = (s : Sides) → AreSidesOf objects ids s → IsMergedPart objects path true ids s old new part

abbrev pub MergesPart : Objects → PathV → Ids → (old new : Work) → Option Kept → Type 0
MergesPart objects path ids old new part = (s : Sides) → AreSidesOf objects ids s → IsMergedPart objects path (not (is_settled ids.base ids.head ids.pushed)) ids s old new part

-- an entry is written down, with what is left below it
pub record MergesEntry (objects : Objects) (path own : PathV) (trio : Trio) (before after : Opened) (old new : Work) : Type 0 where
  pub part : Option Kept
  pub placed : HasEntry own trio part before after
  pub merges : MergesPart objects (path ++ own) (ids_in trio) old new part

-- ---- at the end

abbrev pub none_yet : Work
none_yet = record { made = map.empty; copies = map.empty; long = None; stop = None }

-- the refusal of a merge to so many paths that makes no object any more
abbrev pub refusal_of : Stop → ℕ → MergeFault
refusal_of why.Many paths = TooMany paths
refusal_of (why.Taken id) paths = Taken id

-- the first refusal in their order, or what was merged
abbrev pub FinishesSo : Option Kept → Work → Result Merged MergeFault → Type 0
FinishesSo part work (Ok merged) =
    (long_told work.long ≡ None) × (paths_in part ≤ MAX_PATHS) × (work.stop ≡ None) × (merged ≡ record { root = id_in part; made = work.made; conflicts = map.values work.copies })
FinishesSo part work (Err (TooLong path bytes)) = long_told work.long ≡ Some (path, bytes)
FinishesSo part work (Err (TooMany paths)) = (long_told work.long ≡ None) × (paths ≡ paths_in part) × ((MAX_PATHS < paths) ⊎ (work.stop ≡ Some why.Many))
FinishesSo part work (Err (Taken id)) = (long_told work.long ≡ None) × (paths_in part ≤ MAX_PATHS) × (work.stop ≡ Some (why.Taken id))
FinishesSo part work (Err (Walk fault)) = fault ≡ Store NoMemory
