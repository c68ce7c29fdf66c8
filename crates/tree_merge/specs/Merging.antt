-- What a merge of stored trees gives. Our own. Read IsMerged and IsTaken, then MergesTo.
use Rattle.tree_model.specs.declared.limits.TheConstants.{MAX_PATHS}
use Rattle.std.specs.Prelude.{◌≡◌, ◌≢◌, ◌⊎◌, ◌↔◌, ◌≤◌, ℕ, Bool, true, if◌then◌else◌, List, [], ◌∷◌, ◌++◌, Option, Some, None, is_some, option_map, IsSome, Result, Ok, Err, ⊤}
use Rattle.std.specs.FinMap as map
use Rattle.sha1.specs.Sha1.{sha1}
use Rattle.ids.specs.Key.{Objects}
use Rattle.ids.specs.ObjectId.{nil}
use Rattle.ids.specs.declared.key.Key.{Key}
use Rattle.tree_model.specs.Path.{PathV}
use Rattle.tree_model.specs.Tree.{Tree, has_dir}
use Rattle.tree_model.specs.DirectorySurvival.{Sides}
use Rattle.tree_model.specs.ConflictCopies.{conflicts, places_of}
use Rattle.tree_model.specs.ThreeWayMerge.{MergedTree as merged_tree, TooLong as too_long, TooMany as too_many}
use Rattle.fs_objects.specs.FsObject.{fs_of}
use Rattle.fs_objects.specs.Mode.{is_directory_mode}
use Rattle.fs_objects.specs.declared.dirent.Dirent.{Dirent}
use Rattle.fs_objects.specs.declared.fs_object.FsObject.TheVariants as fs
use Rattle.conflict_names.specs.Naming.{merge_of, naming}
use Rattle.object_graph.specs.Objects.{AreEntriesOf, IsNilWhereNone, IsNilWhereNoPath, IsTreeOf, dirents_at, entry_named, entry_of, fs_key, node_of}
use Rattle.object_graph.specs.Traversal.{IsCompleteRoot, is_in, start, walk_root}
use Rattle.object_graph.specs.Unchanged.{Keeps}
use Rattle.tree_walk.specs.Extent.{extent_of}
use Rattle.tree_walk.specs.Reading.{IsDue}
use Rattle.tree_walk.specs.declared.fault.WalkFault.{WalkFault}
use Rattle.tree_merge.specs.Opening.{settled_in}
use Rattle.tree_merge.specs.TreeBuilding.{AreDirectoriesOver, AreNamed, HasMade, IsCollision, IsDirectoryOf, IsNilMadeOrKept, directory_id_in}
use Rattle.tree_merge.specs.declared.conflict_copies.Named.{Named}
use Rattle.tree_merge.specs.declared.merging.MergeFault.{MergeFault}
use Rattle.tree_merge.specs.declared.merging.MergeFault.TheVariants.{TooLong, TooMany, Taken, Walk}
use Rattle.tree_merge.specs.declared.merging.Merged.{Merged}

-- the bytes are those of a directory of the tree that isn't empty: the tree has, under each name below some path, what the
-- entry of that name stands for
pub record IsDirectoryIn (objects : Objects) (tree : Tree) (bytes : List ℕ) : Type 0 where
  pub path : PathV
  pub is_dir : (path ≡ []) ⊎ (has_dir tree path ≡ true)
  pub entries : List Dirent
  pub reads : fs_of bytes ≡ Ok (fs.Dir entries)
  pub some : entries ≢ []
  pub nodes : (name : List ℕ) → map.get tree (path ++ name ∷ []) ≡ option_map (λ e. node_of objects (entry_of e)) (entry_named name entries)
  pub zeros : (name : List ℕ) (e : Dirent) → entry_named name entries ≡ Some e → is_directory_mode e.mode ≡ true → IsNilWhereNone tree (path ++ name ∷ []) e.id

-- The merge of the three trees was made. Among all objects that have those stored and those made, the root is complete and has
-- its tree; it is forty zeros exactly where that has no path. What was made wasn't stored, the root needs it, and it is a
-- directory of the tree that isn't empty.
pub record IsMerged (objects : Objects) (s : Sides) (merged : Merged) : Type 0 where
  pub tree : Tree
  pub is : merge_of s ≡ merged_tree tree
  pub root : (more : Objects) → Keeps objects more → Keeps merged.made more → IsTreeOf more merged.root tree
  pub complete : (more : Objects) → Keeps objects more → Keeps merged.made more → IsCompleteRoot more merged.root
  pub zeros : IsNilWhereNoPath tree merged.root
  pub conflicts : merged.conflicts ≡ places_of (conflicts naming s)
  pub new : (key : Key) → IsSome (map.get merged.made key) → map.get objects key ≡ None
  pub needed : (key : Key) → IsSome (map.get merged.made key) → (more : Objects) → Keeps objects more → Keeps merged.made more
      → is_in (walk_root true more merged.root start).visits key ≡ true
  pub dirs : (key : Key) (bytes : List ℕ) → map.get merged.made key ≡ Some bytes → IsDirectoryIn objects tree bytes

-- a directory of the tree can't be stored under its id: that is forty zeros, other bytes are stored there, or another directory
-- of the tree has it
pub data CannotStore (objects : Objects) (tree : Tree) (id bytes : List ℕ) : Type 0 where
  zeros : id ≡ nil → CannotStore objects tree id bytes
  stored : (other : List ℕ) → map.get objects (fs_key id) ≡ Some other → other ≢ bytes → CannotStore objects tree id bytes
  another : (other : List ℕ) → IsDirectoryIn objects tree other → id ≡ sha1 other → other ≢ bytes → CannotStore objects tree id bytes

-- the merge isn't refused, but a directory of its tree can't be stored under its id
pub record IsTaken (objects : Objects) (s : Sides) (id : List ℕ) : Type 0 where
  pub tree : Tree
  pub is : merge_of s ≡ merged_tree tree
  pub bytes : List ℕ
  pub own : id ≡ sha1 bytes
  pub within : IsDirectoryIn objects tree bytes
  pub clash : CannotStore objects tree id bytes

-- where what lies below a path is one side's, and its directory isn't empty, the merged tree has that directory itself
abbrev pub KeepsSettled : Objects → (base head pushed : List ℕ) → Merged → Type 0
KeepsSettled objects base head pushed merged = (more : Objects) → Keeps objects more → Keeps merged.made more → (dir : PathV) (id : List ℕ)
    → settled_in objects (dirents_at objects base) (dirents_at objects head) (dirents_at objects pushed) dir ≡ Some id → (extent_of objects id).paths ≢ 0
    → directory_id_in more (dirents_at more merged.root) dir ≡ Some id

-- what a merge answers, in each case
abbrev pub MergesTo : Objects → Sides → Result Merged MergeFault → Type 0
MergesTo objects s (Ok merged) = IsMerged objects s merged
MergesTo objects s (Err (TooLong path bytes)) = merge_of s ≡ too_long path bytes
MergesTo objects s (Err (TooMany paths)) = merge_of s ≡ too_many paths
MergesTo objects s (Err (Taken id)) = IsTaken objects s id
MergesTo objects s (Err (Walk fault)) = IsDue objects None fault

-- over any shelf, a refusal as taken is for two things of one name
abbrev pub IsCaused : MergeFault → Type 0
IsCaused (TooLong path bytes) = ⊤
IsCaused (TooMany paths) = ⊤
IsCaused (Taken id) = IsCollision id
IsCaused (Walk fault) = ⊤

-- the three roots are complete
pub record AreComplete (objects : Objects) (base head pushed : List ℕ) : Type 0 where
  pub base_whole : IsCompleteRoot objects base
  pub head_whole : IsCompleteRoot objects head
  pub pushed_whole : IsCompleteRoot objects pushed

-- what a merge reads: a fault of the walk, or all that it wants
abbrev pub as_read : {T : Type 0} → Result T MergeFault → Result ⊤ WalkFault
as_read (Ok value) = Ok tt
as_read (Err (TooLong path bytes)) = Ok tt
as_read (Err (TooMany paths)) = Ok tt
as_read (Err (Taken id)) = Ok tt
as_read (Err (Walk fault)) = Err fault

-- ---- for private clauses

-- the objects of the merged entries, of which some directories are kept by their ids, as they are stored
pub record IsBuiltOver (objects : Objects) (kept : PathV → Option (List ℕ)) (named : Named) (merged : Merged) : Type 0 where
  pub few : map.len named.nodes ≤ MAX_PATHS
  pub value : (more : Objects) → Keeps objects more → Keeps merged.made more → AreEntriesOf more merged.root named.nodes
  pub needed : (id : List ℕ) → id ≢ nil → HasMade merged.made id → (more : Objects) → Keeps objects more → Keeps merged.made more → IsDirectoryOf more merged.root id
  pub dirs : AreDirectoriesOver kept named.nodes merged.made × IsNilMadeOrKept kept merged.made merged.root
  pub ids : (dir : PathV) (id : List ℕ) → dir ≢ [] → kept dir ≡ Some id → (more : Objects) → Keeps objects more → Keeps merged.made more → directory_id_in more (dirents_at more merged.root) dir ≡ Some id
  pub zeros : (merged.root ≡ nil) ↔ ((path : PathV) → map.get named.nodes path ≡ None)
  pub names : AreNamed merged.made
  pub conflicts : merged.conflicts ≡ map.values named.copies

-- what is stored under a key is these bytes, if anything is
abbrev pub IsSameAt : Objects → Key → List ℕ → Type 0
IsSameAt objects key bytes = (other : List ℕ) → map.get objects key ≡ Some other → other ≡ bytes

-- other bytes than these are stored there
abbrev pub IsOtherAt : Objects → Key → List ℕ → Type 0
IsOtherAt objects key bytes = (other : List ℕ) × (map.get objects key ≡ Some other) × (other ≢ bytes)

abbrev pub FindsSo : Objects → Key → List ℕ → Result Bool MergeFault → Type 0
FindsSo objects key bytes (Ok found) = (found ≡ is_some (map.get objects key)) × IsSameAt objects key bytes
FindsSo objects key bytes (Err (TooLong path size)) = ⊥
FindsSo objects key bytes (Err (TooMany paths)) = ⊥
FindsSo objects key bytes (Err (Taken id)) = (id ≡ key.id) × IsOtherAt objects key bytes
FindsSo objects key bytes (Err (Walk fault)) = IsDue objects None fault

-- the objects without those that are stored, which have the same bytes there
pub record AreLeft (objects made left : Objects) : Type 0 where
  pub is : (key : Key) → map.get left key ≡ (if is_some (map.get objects key) then None else map.get made key)
  pub same : (key : Key) (bytes : List ℕ) → map.get made key ≡ Some bytes → IsSameAt objects key bytes

-- one of the objects has other bytes where it is stored
pub record IsStoredOther (objects made : Objects) (id : List ℕ) : Type 0 where
  pub key : Key
  pub bytes : List ℕ
  pub there : map.get made key ≡ Some bytes
  pub own : id ≡ key.id
  pub other : IsOtherAt objects key bytes

abbrev pub LeavesSo : Objects → Objects → Result Objects MergeFault → Type 0
LeavesSo objects made (Ok left) = AreLeft objects made left
LeavesSo objects made (Err (TooLong path bytes)) = ⊥
LeavesSo objects made (Err (TooMany paths)) = ⊥
LeavesSo objects made (Err (Taken id)) = IsStoredOther objects made id
LeavesSo objects made (Err (Walk fault)) = IsDue objects None fault
