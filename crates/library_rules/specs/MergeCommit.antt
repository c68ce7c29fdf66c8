-- What an update makes that merges a pushed commit into the head. Our own. Read OfTrees, then Makes and Clashes.
use Rattle.std.specs.Prelude.{◌≡◌, ◌≢◌, ◌⊎◌, ℕ, Bool, true, false, List, [], ◌∷◌, ◌++◌, codes, Some, None, option_map, Result, Ok, Err}
use Rattle.std.specs.FinMap as map
use Rattle.std.specs.List.{AllByRecursion, Contains, IsDistinct}
use Rattle.std.specs.Ordering.{eq_by_cmp}
use Rattle.sha1.specs.Sha1.{sha1}
use Rattle.ids.specs.Key.{Objects, key_cmp}
use Rattle.commit_objects.specs.Made.{made}
use Rattle.commit_objects.specs.Spelling.{text_of}
use Rattle.commit_objects.specs.declared.commit.Commit.{Commit}
use Rattle.conflict_names.specs.Naming.{merge_of, naming}
use Rattle.fs_objects.specs.FsObject.{fs_of}
use Rattle.fs_objects.specs.Mode.{is_directory_mode}
use Rattle.fs_objects.specs.declared.dirent.Dirent.{Dirent}
use Rattle.fs_objects.specs.declared.fs_object.FsObject.TheVariants as fs
use Rattle.object_graph.specs.Objects.{commit_at, commit_key, fs_key, is_nil, entry_named, entry_of, node_of, IsNilWhereNone, IsNilWhereNoPath, IsTreeOf}
use Rattle.object_graph.specs.Traversal.{IsComplete, is_in, needs}
use Rattle.object_graph.specs.declared.fault.TreeFault.{TreeFault}
use Rattle.tree_model.specs.ConflictCopies.{conflicts}
use Rattle.tree_model.specs.DirectorySurvival.{Sides}
use Rattle.tree_model.specs.Path.{PathV}
use Rattle.tree_model.specs.ThreeWayMerge.{MergedTree}
use Rattle.tree_model.specs.Tree.{Tree, has_dir}
use Rattle.library_rules.specs.Calls.{other_bytes}
use Rattle.library_rules.specs.Changes.{with_added, keys_added}
use Rattle.library_rules.specs.LibraryState.{State, head_of, is_stored}
use Rattle.library_rules.specs.declared.entry.Stored.{Stored}

-- the tree of the root of a commit that could be read
abbrev pub RootTree : Objects → Result Commit TreeFault → Tree → Type 0
RootTree objects (Ok commit) tree = IsTreeOf objects commit.root tree
RootTree objects (Err fault) tree = ⊥

-- the tree of a commit: that of its root
abbrev pub IsTreeAt : Objects → List ℕ → Tree → Type 0
IsTreeAt objects id tree = RootTree objects (commit_at objects id) tree

-- whether a list has an item
abbrev pub some_in : {A : Type 0} → List A → Bool
some_in [] = false
some_in (x ∷ xs) = true

-- whether a merge gives a conflict name
abbrev pub has_conflict : Sides → Bool
has_conflict sides = some_in (conflicts naming sides)

-- a fact on the trees of the merge base, the head and the pushed commit
abbrev pub OfTrees : State → (base pushed : List ℕ) → (Sides → Type 0) → Type 0
OfTrees s base pushed P =
    (b h p : Tree) → IsTreeAt s.objects base b → IsTreeAt s.objects (head_of s.state.kept) h → IsTreeAt s.objects pushed p
    → P (record { base = b; head = h; pushed = p })

-- the commit of a merge: its parents are the old head and the pushed commit, it is by the user of the token, at the moment
abbrev pub merge_commit : State → ℕ → (user pushed root : List ℕ) → Bool → Commit
merge_commit s moment user pushed root conflict = made s.state.lib root (Some (head_of s.state.kept)) (Some pushed) user (codes "Auto merge by system") moment conflict

-- a directory object, under its own name. It has an entry: an empty directory has no object
pub record IsDirectoryObject (x : Stored) : Type 0 where
  pub entries : List Dirent
  pub some : entries ≢ []
  pub reads : fs_of x.bytes ≡ Ok (fs.Dir entries)
  pub named : x.key ≡ fs_key (sha1 x.bytes)

-- the commit of a merge, under its own name
pub record IsCommitObject (s : State) (moment : ℕ) (user pushed root : List ℕ) (conflict : Bool) (x : Stored) : Type 0 where
  pub text : x.bytes ≡ text_of (merge_commit s moment user pushed root conflict)
  pub named : x.key ≡ commit_key (merge_commit s moment user pushed root conflict).id

-- an object that a merge may make: a directory, or its commit
abbrev pub IsMade : State → ℕ → (user pushed root : List ℕ) → Bool → Stored → Type 0
IsMade s moment user pushed root conflict x = IsDirectoryObject x ⊎ IsCommitObject s moment user pushed root conflict x

-- a directory of a tree lists these entries: the tree has, under each name below some path, what the entry of that
-- name stands for
pub record IsDirectoryOf (objects : Objects) (tree : Tree) (entries : List Dirent) : Type 0 where
  pub path : PathV
  pub is_dir : (path ≡ []) ⊎ (has_dir tree path ≡ true)
  pub nodes : (name : List ℕ) → map.get tree (path ++ name ∷ []) ≡ option_map (λ e. node_of objects (entry_of e)) (entry_named name entries)
  pub zeros : (name : List ℕ) (e : Dirent) → entry_named name entries ≡ Some e → is_directory_mode e.mode ≡ true → IsNilWhereNone tree (path ++ name ∷ []) e.id

-- the object of a directory of the merged tree
pub record IsMergedDirectory (s : State) (tree : Tree) (x : Stored) : Type 0 where
  pub object : IsDirectoryObject x
  pub within : IsDirectoryOf s.objects tree object.entries

-- an object that the merge into this tree makes: a directory of it, or the commit
abbrev pub IsMadeOf : State → ℕ → (user pushed root : List ℕ) → Bool → Tree → Stored → Type 0
IsMadeOf s moment user pushed root conflict tree x = IsMergedDirectory s tree x ⊎ IsCommitObject s moment user pushed root conflict x

-- the new head is a complete commit whose tree is the merge, told as a conflict where a conflict name was given; the
-- objects that come with it are those that it needs and that weren't stored, each once and under its own name: the commit,
-- and directories of the merged tree, in which an entry of an empty directory has forty zeros
pub record Makes (s : State) (moment : ℕ) (user base pushed new : List ℕ) (added : List Stored) : Type 0 where
  pub root : List ℕ
  pub conflict : Bool
  pub is_commit : commit_at (with_added s.objects added) new ≡ Ok (merge_commit s moment user pushed root conflict)
  pub complete : IsComplete (with_added s.objects added) new
  pub tree : OfTrees s base pushed (λ sides. (t : Tree) × (merge_of sides ≡ MergedTree t) × IsTreeOf (with_added s.objects added) root t)
  pub zeros : OfTrees s base pushed (λ sides. (t : Tree) → merge_of sides ≡ MergedTree t → IsNilWhereNoPath t root)
  pub told : OfTrees s base pushed (λ sides. conflict ≡ has_conflict sides)
  pub needed : AllByRecursion (λ x. is_in (needs (with_added s.objects added) new) x.key ≡ true) added
  pub were_gone : AllByRecursion (λ x. is_stored s.objects x.key ≡ false) added
  pub named : AllByRecursion (IsMade s moment user pushed root conflict) added
  pub of_merge : OfTrees s base pushed (λ sides. (t : Tree) → merge_of sides ≡ MergedTree t → AllByRecursion (IsMadeOf s moment user pushed root conflict t) added)
  pub once : IsDistinct (eq_by_cmp key_cmp) (keys_added added)

-- some of the objects that a merge would make, each once
pub record Partly (s : State) (moment : ℕ) (user base pushed : List ℕ) (added : List Stored) : Type 0 where
  pub new : List ℕ
  pub all : List Stored
  pub would : Makes s moment user base pushed new all
  pub part : AllByRecursion (Contains all) added
  pub once : IsDistinct (eq_by_cmp key_cmp) (keys_added added)

-- ---- objects that can't be stored

-- the commit of the merged tree: with some directory objects its root has this tree
pub record IsMergedCommit (s : State) (moment : ℕ) (user pushed : List ℕ) (conflict : Bool) (tree : Tree) (x : Stored) : Type 0 where
  pub root : List ℕ
  pub dirs : List Stored
  pub made : AllByRecursion IsDirectoryObject dirs
  pub is_tree : IsTreeOf (with_added s.objects dirs) root tree
  pub object : IsCommitObject s moment user pushed root conflict x

-- an object can't be stored under its name: that is forty zeros, other bytes are stored there, or another directory
-- of the merged tree has it
pub data Clash (s : State) (tree : Tree) (x : Stored) : Type 0 where
  zeros : is_nil x.key.id ≡ true → Clash s tree x
  stored : other_bytes (map.get s.objects x.key) x.bytes ≡ true → Clash s tree x
  another : (other : Stored) → IsMergedDirectory s tree other → other.key ≡ x.key → other.bytes ≢ x.bytes → Clash s tree x

-- an object of the merge of these trees that has this id can't be stored
pub record ClashesAt (s : State) (moment : ℕ) (user pushed id : List ℕ) (sides : Sides) : Type 0 where
  pub tree : Tree
  pub merged : merge_of sides ≡ MergedTree tree
  pub one : Stored
  pub is_made : IsMergedDirectory s tree one ⊎ IsMergedCommit s moment user pushed (has_conflict sides) tree one
  pub at : one.key.id ≡ id
  pub clash : Clash s tree one

-- the same, of the trees of the merge base, the head and the pushed commit
pub record Clashes (s : State) (moment : ℕ) (user base pushed id : List ℕ) : Type 0 where
  pub of_trees : OfTrees s base pushed (ClashesAt s moment user pushed id)
