-- How many paths a tree has below a directory. Our own. Read paths_below, then Covers.
use Rattle.std.specs.Prelude.{◌≡◌, ℕ, ◌+◌, true, cond, is_some, List, [], ◌∷◌, ◌++◌, IsSome}
use Rattle.std.specs.List.{count_by, sum_by, list_any, IsDistinct}
use Rattle.std.specs.Str.{bytes_eq}
use Rattle.std.specs.FinMap as map
use Rattle.tree_model.specs.Path.{PathV}
use Rattle.tree_model.specs.Tree.{Tree}
use Rattle.tree_model.specs.DirectorySurvival.{is_under, is_within}

-- the number of paths below a directory
abbrev pub paths_below : Tree → PathV → ℕ
paths_below tree dir = count_by (is_under dir) (map.keys tree)

-- the number of paths that are this one or below it
abbrev pub paths_within : Tree → PathV → ℕ
paths_within tree path = count_by (is_within path) (map.keys tree)

-- the names are distinct, and whatever the tree has below the directory stands at or below one of them
pub record Covers (tree : Tree) (dir : PathV) (names : List (List ℕ)) : Type 0 where
  pub distinct : IsDistinct bytes_eq names
  pub each : (name : List ℕ) (rest : PathV) → IsSome (map.get tree (dir ++ name ∷ rest)) → list_any (bytes_eq name) names ≡ true

-- a tree's paths below a directory are those within its entries, by name; a path counts itself and what is below it;
-- and all paths are below the root
pub record CountsAddUp (tree : Tree) : Type 0 where
  pub by_name : (dir : PathV) (names : List (List ℕ)) → Covers tree dir names
      → paths_below tree dir ≡ sum_by (λ name. paths_within tree (dir ++ name ∷ [])) names
  pub at : (path : PathV) → paths_within tree path ≡ cond (is_some (map.get tree path)) 1 0 + paths_below tree path
  pub whole : paths_below tree [] ≡ map.len tree
