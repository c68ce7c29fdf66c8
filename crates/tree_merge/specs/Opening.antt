-- Which directories a merge opens, and what it takes of those that it doesn't. Our own. Read is_settled and part_of, then settled_in and kept_if.
use Rattle.std.specs.Prelude.{◌≡◌, ◌≤◌, ℕ, zero, suc, ◌||◌, ◌&&◌, not, Bool, true, false, if◌then◌else◌, List, [], ◌∷◌, length, Option, Some, None, IsSome, is_some, option_map, ⊤}
use Rattle.std.specs.FinMap as map
use Rattle.std.specs.Option.{option_or}
use Rattle.std.specs.Ordering.{eq_by_cmp}
use Rattle.ids.specs.Key.{Objects}
use Rattle.ids.specs.ObjectId.{nil}
use Rattle.tree_model.specs.Path.{PathV, path_cmp}
use Rattle.fs_objects.specs.declared.dirent.Dirent.{Dirent}
use Rattle.object_graph.specs.Objects.{directory_in, dirents_at, entry_below, entry_named, entry_of, same_id}
use Rattle.object_graph.specs.Traversal.{IsCompleteRoot}
use Rattle.tree_walk.specs.Extent.{extent_of}
use Rattle.tree_merge.specs.Level.{IsDirectoryAt, Tells}
use Rattle.object_graph.specs.declared.entry.Entry.{Entry}
use Rattle.tree_merge.specs.FileEntry.{is_directory}
use Rattle.tree_merge.specs.declared.level.Level.{Level}
use Rattle.tree_merge.specs.declared.level.Trio.{Trio}
use Rattle.tree_merge.specs.declared.opening.Ids.{Ids}
use Rattle.tree_merge.specs.declared.opening.Kept.{Kept}
use Rattle.tree_merge.specs.declared.opening.Opened.{Opened}
use Rattle.tree_merge.specs.declared.sides.Three.{Three}

-- whether two sides have one directory, or neither has one
abbrev pub same_directory : (left right : Option (List ℕ)) → Bool
same_directory None None = true
same_directory None (Some right) = false
same_directory (Some left) None = false
same_directory (Some left) (Some right) = same_id left right

-- pushed has there the directory of the head, or that of base: what lies below is the head's
abbrev pub is_left_alone : (base head pushed : Option (List ℕ)) → Bool
is_left_alone base head pushed = same_directory pushed head || same_directory pushed base

-- head has there the directory of base, and pushed has none, or there is none and pushed has one: what lies below is pushed's
abbrev pub is_pusheds : (base head pushed : Option (List ℕ)) → Bool
is_pusheds base head pushed = same_directory head base && not (is_some base && is_some pushed)

-- what lies below is what one side has
abbrev pub is_settled : (base head pushed : Option (List ℕ)) → Bool
is_settled base head pushed = is_left_alone base head pushed || is_pusheds base head pushed

-- the directory of that side, if it has one
abbrev pub part_of : (base head pushed : Option (List ℕ)) → Option (List ℕ)
part_of base head pushed = if is_left_alone base head pushed then head else pushed

-- the same at the entries of a name
abbrev pub is_settled_at : List ℕ → (base head pushed : List Dirent) → Bool
is_settled_at name base head pushed = is_settled (directory_in (entry_named name base)) (directory_in (entry_named name head)) (directory_in (entry_named name pushed))

abbrev pub part_at : List ℕ → (base head pushed : List Dirent) → Option (List ℕ)
part_at name base head pushed = part_of (directory_in (entry_named name base)) (directory_in (entry_named name head)) (directory_in (entry_named name pushed))

module _ (objects : Objects) where
  -- the entries of a directory, if there is one
  abbrev pub dirents_if : Option (List ℕ) → List Dirent
  dirents_if None = []
  dirents_if (Some id) = dirents_at objects id

  -- those of the directory of a name
  abbrev pub dirents_of : List ℕ → List Dirent → List Dirent
  dirents_of name entries = dirents_if (directory_in (entry_named name entries))

  -- the directory that has what lies below a path below three directories, where that is settled, and nothing on the way to it is
  abbrev pub settled_in : (base head pushed : List Dirent) → PathV → Option (List ℕ)
  settled_in base head pushed [] = None
  settled_in base head pushed (name ∷ []) = if is_settled_at name base head pushed then part_at name base head pushed else None
  settled_in base head pushed (name ∷ next ∷ path) =
      if is_settled_at name base head pushed then None else settled_in (dirents_of name base) (dirents_of name head) (dirents_of name pushed) (next ∷ path)

-- ---- for private clauses

-- the directories that three entries name
abbrev pub ids_in : Trio → Ids
ids_in trio = record { base = directory_in trio.base; head = directory_in trio.head; pushed = directory_in trio.pushed }

-- the directory that has what lies below, where it is settled
abbrev pub part_in : Ids → Option (List ℕ)
part_in ids = part_of ids.base ids.head ids.pushed

-- the id is none, or that of a directory that can be read
abbrev pub IsDirectoryIf : Objects → Option (List ℕ) → Type 0
IsDirectoryIf objects None = ⊤
IsDirectoryIf objects (Some id) = IsDirectoryAt objects id

-- what lies below a directory is complete as a root, and a path has at most so many names there
pub record IsWholeSide (objects : Objects) (room : ℕ) (id : List ℕ) : Type 0 where
  pub complete : IsCompleteRoot objects id
  pub deep : (q : PathV) → IsSome (entry_below objects q id) → length q ≤ room

abbrev pub IsWholeIf : Objects → ℕ → Option (List ℕ) → Type 0
IsWholeIf objects room None = ⊤
IsWholeIf objects room (Some id) = IsWholeSide objects room id

abbrev pub AreWholeSides : Objects → ℕ → Ids → Type 0
AreWholeSides objects room ids = IsWholeIf objects room ids.base × IsWholeIf objects room ids.head × IsWholeIf objects room ids.pushed

-- there is room for entries, and what lies below them is whole with one name less
pub record AreWholeEntries (objects : Objects) (room : ℕ) (trio : Trio) : Type 0 where
  pub some_room : 1 ≤ room
  pub below : (less : ℕ) → room ≡ suc less → AreWholeSides objects less (ids_in trio)

-- the entries of the three directories, each at the path of its name
pub record IsLevelOf (objects : Objects) (ids : Ids) (level : Level) : Type 0 where
  pub base : Tells [] (dirents_if objects ids.base) level.base
  pub head : Tells [] (dirents_if objects ids.head) level.head
  pub pushed : Tells [] (dirents_if objects ids.pushed) level.pushed

-- what is left of a directory: its id, and how many paths lie below it
abbrev pub id_in : Option Kept → List ℕ
id_in None = nil
id_in (Some part) = part.id

abbrev pub paths_in : Option Kept → ℕ
paths_in None = 0
paths_in (Some part) = part.paths

-- a directory as it stands, if it isn't empty
abbrev pub kept_by : List ℕ → ℕ → Option Kept
kept_by id zero = None
kept_by id (suc n) = Some (record { id = id; paths = suc n })

abbrev pub kept_if : Objects → Option (List ℕ) → Option Kept
kept_if objects None = None
kept_if objects (Some id) = kept_by id (extent_of objects id).paths

abbrev pub IsCompleteIf : Objects → Option (List ℕ) → Type 0
IsCompleteIf objects None = ⊤
IsCompleteIf objects (Some id) = IsCompleteRoot objects id

-- what the three sides have at an entry, where it is told whether something survives below it: there base has no directory
abbrev pub base_over : Bool → Option Dirent → Option Entry
base_over survives entry = if survives && is_directory (option_map entry_of entry) then None else option_map entry_of entry

abbrev pub three_over : Option Kept → Trio → Three
three_over part trio = record { base = base_over (is_some part) trio.base; head = option_map entry_of trio.head; pushed = option_map entry_of trio.pushed }

-- an entry is written down with what is left below it
pub record HasEntry (own : PathV) (trio : Trio) (part : Option Kept) (old new : Opened) : Type 0 where
  pub joined : new.joined ≡ map.insert old.joined own (three_over part trio)
  pub kept : (q : PathV) → map.get new.kept q ≡ (if eq_by_cmp path_cmp q own then option_or part (map.get old.kept q) else map.get old.kept q)
