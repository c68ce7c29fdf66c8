-- The entries of three directories at one path, name by name. Our own. Read Tells, then IsTaken.
use Rattle.std.specs.Prelude.{◌≡◌, ◌⊎◌, ◌<◌, ◌+◌, ℕ, ◌||◌, if◌then◌else◌, true, List, [], ◌∷◌, ◌++◌, None, IsSome, is_some, Ok}
use Rattle.std.specs.FinMap as map
use Rattle.std.specs.Ordering.{eq_by_cmp}
use Rattle.ids.specs.Key.{Objects}
use Rattle.tree_model.specs.Path.{PathV, path_cmp}
use Rattle.fs_objects.specs.declared.dirent.Dirent.{Dirent}
use Rattle.fs_objects.specs.declared.fs_object.FsObject.TheVariants as fs
use Rattle.object_graph.specs.Objects.{entry_named, fs_at, is_nil}
use Rattle.tree_merge.specs.declared.level.Level.{Level}
use Rattle.tree_merge.specs.declared.level.Trio.{Trio}

abbrev pub Dirents : Type 0
Dirents = map.FinMap path_cmp Dirent

-- forty zeros, or the id of a directory object that can be read
abbrev pub IsDirectoryAt : Objects → List ℕ → Type 0
IsDirectoryAt objects id = (is_nil id ≡ true) ⊎ ((entries : List Dirent) × (fs_at objects id ≡ Ok (fs.Dir entries)))

-- the table has the entries of a directory at their paths below this one, and nothing else
pub record Tells (path : PathV) (entries : List Dirent) (table : Dirents) : Type 0 where
  pub named : (name : List ℕ) → map.get table (path ++ name ∷ []) ≡ entry_named name entries
  pub only : (q : PathV) → IsSome (map.get table q) → (name : List ℕ) × (q ≡ path ++ name ∷ [])

-- the table has what it had but at this path
abbrev pub IsWithout : PathV → (old new : Dirents) → Type 0
IsWithout path old new = (q : PathV) → map.get new q ≡ (if eq_by_cmp path_cmp q path then None else map.get old q)

-- how many entries there are
abbrev pub in_level : Level → ℕ
in_level level = map.len level.base + map.len level.head + map.len level.pushed

-- the entries at a path were taken, of which there is at least one
pub record IsTaken (path : PathV) (trio : Trio) (old new : Level) : Type 0 where
  pub base : trio.base ≡ map.get old.base path
  pub head : trio.head ≡ map.get old.head path
  pub pushed : trio.pushed ≡ map.get old.pushed path
  pub some : (is_some trio.base || (is_some trio.head || is_some trio.pushed)) ≡ true
  pub left_base : IsWithout path old.base new.base
  pub left_head : IsWithout path old.head new.head
  pub left_pushed : IsWithout path old.pushed new.pushed
  pub less : in_level new < in_level old

-- no entry is left
pub record IsEmpty (level : Level) : Type 0 where
  pub base : level.base ≡ map.empty
  pub head : level.head ≡ map.empty
  pub pushed : level.pushed ≡ map.empty
