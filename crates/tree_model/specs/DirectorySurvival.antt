-- Which directories a three-way merge has. Our own. Read kept_dir, then Stays.
use Rattle.std.specs.Prelude.{◌≡◌, ℕ, ◌&&◌, ◌||◌, not, Bool, true, false, List, [], ◌∷◌, ◌++◌, nat_eq, is_some, Option}
use Rattle.std.specs.List.{list_any}
use Rattle.std.specs.Cmp.Lexicographic.{pointwise}
use Rattle.std.specs.FinMap as map
use Rattle.tree_model.specs.declared.node.FileVersion.{FileVersion}
use Rattle.tree_model.specs.Path.{PathV}
use Rattle.tree_model.specs.Tree.{Tree, file_at, has_dir}
use Rattle.tree_model.specs.FileMerge.{same_file, choice, Choice}

-- the three trees of a merge
pub record Sides : Type 0 where
  pub base : Tree
  pub head : Tree
  pub pushed : Tree

abbrev pub choice_at : Sides → PathV → Choice
choice_at s path = choice (file_at s.base path) (file_at s.head path) (file_at s.pushed path)

abbrev pub main_at : Sides → PathV → Option FileVersion
main_at s path = (choice_at s path).main

abbrev pub side_at : Sides → PathV → Option FileVersion
side_at s path = (choice_at s path).side

-- a file gets its place at this path or beside it
abbrev pub gets_file : Sides → PathV → Bool
gets_file s path = is_some (main_at s path) || is_some (side_at s path)

-- what the sides have at a path alone keeps a directory there: both have one, or one has it where base has none
abbrev pub kept_dir : Sides → PathV → Bool
kept_dir s dir = (has_dir s.head dir && has_dir s.pushed dir) || ((has_dir s.head dir || has_dir s.pushed dir) && not (has_dir s.base dir))

-- the path is the directory, or is below it
abbrev pub is_within : PathV → PathV → Bool
is_within [] path = true
is_within (name ∷ dir) [] = false
is_within (name ∷ dir) (first ∷ path) = pointwise nat_eq name first && is_within dir path

-- the path is below the directory
abbrev pub is_under : PathV → PathV → Bool
is_under [] [] = false
is_under [] (first ∷ path) = true
is_under (name ∷ dir) [] = false
is_under (name ∷ dir) (first ∷ path) = pointwise nat_eq name first && is_under dir path

-- the trees have the same files, up to times and authors, and the same directories below this directory
pub record AgreeBelow (dir : PathV) (left right : Tree) : Type 0 where
  pub files : (path : PathV) → is_under dir path ≡ true → same_file (file_at left path) (file_at right path) ≡ true
  pub dirs : (path : PathV) → is_under dir path ≡ true → has_dir left path ≡ has_dir right path

-- a directory survives: it is kept itself, a file gets its place below it, or a directory below it survives
pub data Stays (s : Sides) : PathV → Type 0 where
  kept : (dir : PathV) → kept_dir s dir ≡ true → Stays s dir
  file_below : (dir path : PathV) → is_under dir path ≡ true → gets_file s path ≡ true → Stays s dir
  dir_below : (dir path : PathV) → is_under dir path ≡ true → Stays s path → Stays s dir

-- the paths of the three trees, some of them more than once
abbrev pub paths_of_all : Sides → List PathV
paths_of_all s = map.keys s.base ++ map.keys s.head ++ map.keys s.pushed

-- what makes a directory survive at this path
abbrev pub keeps : Sides → PathV → PathV → Bool
keeps s dir path = (is_within dir path && kept_dir s path) || (is_under dir path && gets_file s path)

-- the test of Stays, which looks at each path once
abbrev pub stays : Sides → PathV → Bool
stays s dir = list_any (keeps s dir) (paths_of_all s)

-- an entry of the directory gets a file at or beside it, or survives as a directory
pub record HasKeptEntry (s : Sides) (dir : PathV) : Type 0 where
  pub name : List ℕ
  pub keeps : (gets_file s (dir ++ name ∷ []) || stays s (dir ++ name ∷ [])) ≡ true
