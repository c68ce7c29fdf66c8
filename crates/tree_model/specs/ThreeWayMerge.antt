-- The three-way merge of trees, with its two refusals. Our own. Read node_at, then merged, then merge.
use Rattle.std.specs.Prelude.{◌≡◌, ◌≢◌, ℕ, ℤ, true, if◌then◌else◌, List, ◌++◌, map as map_list, length, nat_lt, ◌≤◌, ◌<◌, ◌⊎◌, All, Contains, Option, Some, None, option_map}
use Rattle.std.specs.declared.cmp.Ordering.TheVariants.{Greater}
use Rattle.std.specs.FinMap as map
use Rattle.tree_model.specs.declared.limits.TheConstants.{MAX_PATHS, MAX_NAME}
use Rattle.tree_model.specs.declared.node.FileVersion.{FileVersion}
use Rattle.tree_model.specs.declared.node.Node.{Node}
use Rattle.tree_model.specs.declared.node.Node.TheVariants.{Dir, File}
use Rattle.tree_model.specs.Name.{IsName}
use Rattle.tree_model.specs.Path.{PathV, path_cmp, last_name}
use Rattle.tree_model.specs.FileMerge.{same_version}
use Rattle.tree_model.specs.Tree.{Tree, IsAlike, file_at}
use Rattle.tree_model.specs.DirectorySurvival.{Sides, main_at, stays, paths_of_all}
use Rattle.tree_model.specs.ConflictCopies.{Naming, told, conflicts, first_long}

-- what stands at a path of the three trees: a directory that survives, or else the main file
abbrev pub node_at : Sides → PathV → Option Node
node_at s path = if stays s path then Some Dir else option_map File (main_at s path)

-- a conflict copy at its path
abbrev pub file_moved : (PathV × FileVersion) × PathV → PathV × Node
file_moved m = (m.1, File m.0.1)

-- the conflict copies, and what stands at the paths of the three trees
abbrev pub merged : Naming → Sides → Tree
merged naming s = map.from_entries (map_list file_moved (conflicts naming s) ++ told (node_at s) (paths_of_all s))

-- what a merge gives
pub data Merge : Type 0 where
  MergedTree : Tree → Merge
  TooLong : PathV → ℕ → Merge
  TooMany : ℕ → Merge

abbrev pub within_limit : Tree → Merge
within_limit tree = if nat_lt MAX_PATHS (map.len tree) then TooMany (map.len tree) else MergedTree tree

abbrev pub merge_by : Option (PathV × ℕ) → Tree → Merge
merge_by (Some long) tree = TooLong long.0 long.1
merge_by None tree = within_limit tree

-- the merged tree; or the first file whose conflict name is too long; or the number of paths over 1,000,000
abbrev pub merge : Naming → (base head pushed : Tree) → Merge
merge naming base head pushed =
    let s : Sides = record { base = base; head = head; pushed = pushed } in
    merge_by (first_long (conflicts naming s)) (merged naming s)

-- what a naming owes: other numbers from 1 on give other names, and a name that isn't too long is good
pub record IsNaming (naming : Naming) : Type 0 where
  pub apart : (name modifier : List ℕ) (mtime : ℤ) (i j : ℕ) → 1 ≤ i → 1 ≤ j → naming name modifier mtime i ≡ naming name modifier mtime j → i ≡ j
  pub good : (name modifier : List ℕ) (mtime : ℤ) (k : ℕ) → 1 ≤ k → IsName name → length (naming name modifier mtime k) ≤ MAX_NAME → IsName (naming name modifier mtime k)

-- the merge isn't refused, and gives a tree that is like the other up to times and authors
pub record MergesLike (naming : Naming) (base head pushed like : Tree) : Type 0 where
  pub tree : Tree
  pub is : merge naming base head pushed ≡ MergedTree tree
  pub alike : IsAlike tree like

-- a file's version stands in the merged tree with its bytes and mode: at its path, or as its conflict copy
pub record HasVersion (naming : Naming) (s : Sides) (path : PathV) (version : FileVersion) : Type 0 where
  pub to : PathV
  pub kept : FileVersion
  pub place : (to ≡ path) ⊎ Contains (conflicts naming s) ((path, kept), to)
  pub there : map.get (merged naming s) to ≡ Some (File kept)
  pub same : same_version kept version ≡ true

-- the file whose copy's name is too long is the first such file in the byte order of paths
pub record IsFirstLong (naming : Naming) (s : Sides) (path : PathV) (bytes : ℕ) : Type 0 where
  pub copy : (PathV × FileVersion) × PathV
  pub listed : Contains (conflicts naming s) copy
  pub of : copy.0.0 ≡ path
  pub size : length (last_name copy.1) ≡ bytes
  pub long : MAX_NAME < bytes
  pub first : All (λ other. MAX_NAME < length (last_name other.1) → path_cmp path other.0.0 ≢ Greater) (conflicts naming s)

-- a file of the merged tree stood in head or in pushed just so, at this path or where it left its name for this one
pub record IsFromSide (naming : Naming) (s : Sides) (path : PathV) (version : FileVersion) : Type 0 where
  pub from : PathV
  pub side : (file_at s.head from ≡ Some version) ⊎ (file_at s.pushed from ≡ Some version)
  pub place : (from ≡ path) ⊎ Contains (conflicts naming s) ((from, version), path)
