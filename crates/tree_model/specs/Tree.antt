-- Trees of files and directories by path, without object ids. Our own. Read Tree, then IsTree.
use Rattle.std.specs.Prelude.{◌≡◌, ◌≢◌, ℕ, ◌≤◌, Bool, true, false, List, [], ◌∷◌, ◌++◌, length, Option, Some, None, IsSome}
use Rattle.std.specs.FinMap as map
use Rattle.tree_model.specs.declared.limits.TheConstants.{MAX_PATHS, MAX_NAMES}
use Rattle.tree_model.specs.declared.node.FileVersion.{FileVersion}
use Rattle.tree_model.specs.declared.node.Node.{Node}
use Rattle.tree_model.specs.declared.node.Node.TheVariants.{Dir, File}
use Rattle.tree_model.specs.Path.{PathV, IsPath, path_cmp}
use Rattle.tree_model.specs.FileMerge.{same_file}

-- what stands at each path but the root
abbrev pub Tree : Type 0
Tree = map.FinMap path_cmp Node

-- the file, where the node is one
abbrev pub file_of : Option Node → Option FileVersion
file_of None = None
file_of (Some Dir) = None
file_of (Some (File version)) = Some version

-- whether the node is a directory
abbrev pub is_dir : Option Node → Bool
is_dir None = false
is_dir (Some Dir) = true
is_dir (Some (File version)) = false

abbrev pub file_at : Tree → PathV → Option FileVersion
file_at tree path = file_of (map.get tree path)

abbrev pub has_dir : Tree → PathV → Bool
has_dir tree path = is_dir (map.get tree path)

-- each entry stands in a directory, and each path is one of good names
pub record IsTree (tree : Tree) : Type 0 where
  pub no_root : map.get tree [] ≡ None
  pub in_dirs : (dir : PathV) (name : List ℕ) → dir ≢ [] → IsSome (map.get tree (dir ++ name ∷ [])) → has_dir tree dir ≡ true
  pub named : (path : PathV) → IsSome (map.get tree path) → IsPath path

-- a tree within the limits: at most 1,000,000 paths of at most 100 names each
pub record Fits (tree : Tree) : Type 0 where
  pub whole : IsTree tree
  pub count : map.len tree ≤ MAX_PATHS
  pub depth : (path : PathV) → IsSome (map.get tree path) → length path ≤ MAX_NAMES

-- equal up to times and authors of files
pub record IsAlike (left right : Tree) : Type 0 where
  pub dirs : (path : PathV) → has_dir left path ≡ has_dir right path
  pub files : (path : PathV) → same_file (file_at left path) (file_at right path) ≡ true
