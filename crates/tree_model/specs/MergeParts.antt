-- Parts of a merge: what lies below one directory, and the entries of one directory. Our own. Read IsPart and IsLevel, then
-- MergesBelow and MergesHere; and copy_at, then IsFirst.
use Rattle.std.specs.Prelude.{◌≡◌, ◌≢◌, ℕ, ◌&&◌, ◌||◌, Bool, false, if◌then◌else◌, List, [], ◌∷◌, ◌++◌, map as map_list, length, nat_lt, Option, Some, None, IsSome, option_map, option_and_then}
use Rattle.std.specs.Bool.{then_some}
use Rattle.std.specs.declared.cmp.Ordering.TheVariants.{Greater}
use Rattle.std.specs.Ordering.{is_lt}
use Rattle.std.specs.FinMap as map
use Rattle.tree_model.specs.declared.limits.TheConstants.{MAX_NAME}
use Rattle.tree_model.specs.declared.node.FileVersion.{FileVersion}
use Rattle.tree_model.specs.Path.{PathV, path_cmp, last_name}
use Rattle.tree_model.specs.Tree.{Tree, has_dir}
use Rattle.tree_model.specs.DirectorySurvival.{Sides, is_under, kept_dir, stays}
use Rattle.tree_model.specs.ConflictCopies.{Naming, conflicts}
use Rattle.tree_model.specs.ThreeWayMerge.{merged}

-- ---- what lies below a directory

-- what stands in a path behind as many names as a directory has
abbrev pub beyond : PathV → PathV → PathV
beyond [] path = path
beyond (name ∷ dir) [] = []
beyond (name ∷ dir) (first ∷ path) = beyond dir path

-- a tree has at each path what another one has at that path below a directory
pub record IsPart (dir : PathV) (tree part : Tree) : Type 0 where
  pub no_root : map.get part [] ≡ None
  pub below : (name : List ℕ) (rest : PathV) → map.get part (name ∷ rest) ≡ map.get tree (dir ++ name ∷ rest)

pub record AreParts (dir : PathV) (s part : Sides) : Type 0 where
  pub base : IsPart dir s.base part.base
  pub head : IsPart dir s.head part.head
  pub pushed : IsPart dir s.pushed part.pushed

-- ---- the entries of one directory

-- a tree has the entries of another one's root but those that are left out, and nothing below them
pub record IsTop (left_out : List ℕ → Bool) (tree top : Tree) : Type 0 where
  pub no_root : map.get top [] ≡ None
  pub here : (name : List ℕ) → map.get top (name ∷ []) ≡ (if left_out name then None else map.get tree (name ∷ []))
  pub nothing : (name next : List ℕ) (rest : PathV) → map.get top (name ∷ next ∷ rest) ≡ None

-- Three trees have the entries of three roots, and nothing below them, where it is told below which names something survives:
-- there base has no directory, so that one that head or pushed has is kept.
pub record IsLevel (s level : Sides) (survives : List ℕ → Bool) : Type 0 where
  pub base : IsTop (λ name. survives name && has_dir s.base (name ∷ [])) s.base level.base
  pub head : IsTop (λ name. false) s.head level.head
  pub pushed : IsTop (λ name. false) s.pushed level.pushed
  pub each : (name : List ℕ) → stays s (name ∷ []) ≡ (kept_dir s (name ∷ []) || survives name)

-- ---- copies by the paths that their files left

abbrev pub left_for : (PathV × FileVersion) × PathV → PathV × PathV
left_for copy = (copy.0.0, copy.1)

-- the path of the copy of the file that leaves this path, if one does
abbrev pub copy_at : Naming → Sides → PathV → Option PathV
copy_at naming s path = map.find path_cmp path (map_list left_for (conflicts naming s))

-- the length of its name, where that is too long
abbrev pub long_in : Option PathV → Option ℕ
long_in place = option_and_then (λ p. then_some (nat_lt MAX_NAME (length (last_name p))) (length (last_name p))) place

-- the same of the file that leaves a path
abbrev pub long_at : Naming → Sides → PathV → Option ℕ
long_at naming s path = long_in (copy_at naming s path)

-- what a function tells at the first path in byte order, of those at which it tells something
pub record IsFirstAt (f : PathV → Option ℕ) (first : PathV × ℕ) : Type 0 where
  pub there : f first.0 ≡ Some first.1
  pub least : (path : PathV) → IsSome (f path) → path_cmp first.0 path ≢ Greater

-- the same, or None where it tells nothing anywhere
abbrev pub IsFirst : (PathV → Option ℕ) → Option (PathV × ℕ) → Type 0
IsFirst f None = (path : PathV) → f path ≡ None
IsFirst f (Some first) = IsFirstAt f first

-- of two files, each with the length of its copy's name, the one whose path is the lesser
abbrev pub earlier : (one other : Option (PathV × ℕ)) → Option (PathV × ℕ)
earlier None other = other
earlier (Some first) None = Some first
earlier (Some first) (Some second) = if is_lt (path_cmp second.0 first.0) then Some second else Some first

-- a path is told behind a directory
abbrev pub long_behind : PathV → Option (PathV × ℕ) → Option (PathV × ℕ)
long_behind dir found = option_map (λ long. (dir ++ long.0, long.1)) found

-- what a function tells of paths, behind a directory
abbrev pub told_behind : PathV → (PathV → Option ℕ) → PathV → Option ℕ
told_behind dir f path = if is_under dir path then f (beyond dir path) else None

-- ---- the two laws

-- below a directory the merge is that of what the three trees have below it
pub record MergesBelow (naming : Naming) (dir : PathV) (s part : Sides) : Type 0 where
  pub survives : stays s dir ≡ (kept_dir s dir || stays part [])
  pub stay : (name : List ℕ) (rest : PathV) → stays part (name ∷ rest) ≡ stays s (dir ++ name ∷ rest)
  pub copies : (name : List ℕ) (rest : PathV) → copy_at naming s (dir ++ name ∷ rest) ≡ option_map (λ place. dir ++ place) (copy_at naming part (name ∷ rest))
  pub longs : (name : List ℕ) (rest : PathV) → long_at naming s (dir ++ name ∷ rest) ≡ long_at naming part (name ∷ rest)
  pub nodes : (name : List ℕ) (rest : PathV) → map.get (merged naming part) (name ∷ rest) ≡ map.get (merged naming s) (dir ++ name ∷ rest)
  pub nothing : stays part [] ≡ false → (path : PathV) → map.get (merged naming part) path ≡ None

-- the root's entries are merged by these entries alone, and nothing else comes of them
pub record MergesHere (naming : Naming) (s level : Sides) : Type 0 where
  pub survives : stays level [] ≡ stays s []
  pub stay : (name : List ℕ) → stays level (name ∷ []) ≡ stays s (name ∷ [])
  pub copies : (name : List ℕ) → copy_at naming s (name ∷ []) ≡ copy_at naming level (name ∷ [])
  pub alone : (name next : List ℕ) (rest : PathV) → copy_at naming level (name ∷ next ∷ rest) ≡ None
  pub nodes : (name : List ℕ) → map.get (merged naming level) (name ∷ []) ≡ map.get (merged naming s) (name ∷ [])
  pub nothing : (name next : List ℕ) (rest : PathV) → map.get (merged naming level) (name ∷ next ∷ rest) ≡ None
