-- What one tree needs beside another. Our own. Read ListsUnshared.
use Rattle.std.specs.Prelude.{◌≡◌, ◌⊎◌, ◌||◌, ℕ, Bool, true, false, List, [], ◌∷◌, Option, None, Some, Ok, Err, map as map_list}
use Rattle.std.specs.FinMap as map
use Rattle.ids.specs.Key.{Objects, key_cmp}
use Rattle.ids.specs.declared.key.Key.{Key}
use Rattle.ids.specs.declared.key.Kind.TheVariants as kind
use Rattle.fs_objects.specs.declared.fs_object.FsObject.{FsObject}
use Rattle.library_rules.specs.Changes.{with_added}
use Rattle.library_rules.specs.declared.entry.Stored.{Stored}
use Rattle.object_graph.specs.Objects.{fs_at, fs_key, is_nil}
use Rattle.object_graph.specs.Reached.{named}
use Rattle.object_graph.specs.Traversal.{IsCompleteRoot, is_in, start, walk_root}
use Rattle.object_graph.specs.Unchanged.{Keeps}
use Rattle.tree_walk.specs.Reading.{AnswersRead, IsDue}
use Rattle.tree_walk.specs.declared.fault.WalkFault.{WalkFault}
use Rattle.collector.specs.Compared.{ComparedView, Finds, Spares, is_found, is_spared}

-- ---- objects that are made and not stored yet

abbrev pub stored_in : List (Key × List ℕ) → List Stored
stored_in entries = map_list (λ entry. record { key = entry.0; bytes = entry.1 }) entries

-- what is stored, with what is made; what is stored keeps its bytes
abbrev pub with_made : Objects → map.FinMap key_cmp (List ℕ) → Objects
with_made objects made = with_added objects (stored_in (map.entries made))

-- what is stored stays, and the files and directories are those that are stored or made
pub record AreWithMade (objects : Objects) (made : map.FinMap key_cmp (List ℕ)) (all : Objects) : Type 0 where
  pub keeps : Keeps objects all
  pub fs : (key : Key) → key.kind ≡ kind.Fs → map.get all key ≡ map.get (with_made objects made) key

-- ---- what a tree needs

-- whether the tree of a root needs a key
abbrev pub is_below : Objects → List ℕ → Key → Bool
is_below objects root key = is_in (walk_root true objects root start).visits key

-- the older tree is complete as it is stored, and the new one with what is made
pub record AreComplete (objects all : Objects) (old new : List ℕ) : Type 0 where
  pub older : IsCompleteRoot objects old
  pub newer : IsCompleteRoot all new

-- the keys are of the new tree, and each of its keys is among them or is of the older tree
pub record ListsUnshared (objects all : Objects) (old new : List ℕ) (keys : List Key) : Type 0 where
  pub needed : (key : Key) → is_in keys key ≡ true → is_below all new key ≡ true
  pub each : (key : Key) → is_below all new key ≡ true → (is_in keys key || is_below objects old key) ≡ true

-- a fault of the store
abbrev pub IsOfStore : Objects → WalkFault → Type 0
IsOfStore objects fault = IsDue objects None fault

-- ---- for private clauses

-- what was found is of the new tree, and what is spared of the older one, as is what stands beside a key; and what an
-- opened object names was found, or is spared
pub record AreSettled (objects all : Objects) (old new : List ℕ) (c : ComparedView) : Type 0 where
  pub needed : (key : Key) → is_found c key ≡ true → is_below all new key ≡ true
  pub shared : (key : Key) → is_spared c key ≡ true → is_below objects old key ≡ true
  pub beside : (key : Key) (id : List ℕ) → map.get c.beside key ≡ Some id → is_spared c (fs_key id) ≡ true
  pub closed : (above key : Key) → is_in c.opened above ≡ true → is_in (named all above) key ≡ true
      → (is_found c key || is_spared c key) ≡ true
  pub root : is_nil new ≡ false → (is_found c (fs_key new) || is_below objects old (fs_key new)) ≡ true

-- what stands beside a key and names are spared, if something stands there
abbrev pub SparesBeside : Objects → Option (List ℕ) → ComparedView → ComparedView → Type 0
SparesBeside objects None old new = new ≡ old
SparesBeside objects (Some id) old new = Spares (named objects (fs_key id)) old new

-- what stands beside a key is taken, and what it names is spared; then what the key's object names is found, and what
-- stands beside its names is among what is spared
pub record FindsBeside (objects all : Objects) (key : Key) (old new : ComparedView) : Type 0 where
  pub object : FsObject
  pub reads : fs_at all key.id ≡ Ok object
  pub next : ComparedView
  pub spares : SparesBeside objects (map.get old.beside key) (record old { beside = map.remove old.beside key }) next
  pub placed : ComparedView
  pub opened : placed.opened ≡ next.opened
  pub waiting : placed.waiting ≡ next.waiting
  pub spared : placed.spared ≡ next.spared
  pub each : (at : Key) (id : List ℕ) → map.get placed.beside at ≡ Some id
      → (map.get next.beside at ≡ Some id) ⊎ (is_spared next (fs_key id) ≡ true)
  pub finds : Finds (named all key) placed new

-- what may stand beside is taken, and what it names is spared; then the names are found, and what stands beside them is
-- among what is spared
pub record FindsSpared (objects : Objects) (beside : Option (List ℕ)) (names : List Key) (old new : ComparedView) : Type 0 where
  pub next : ComparedView
  pub spares : SparesBeside objects beside old next
  pub placed : ComparedView
  pub opened : placed.opened ≡ next.opened
  pub waiting : placed.waiting ≡ next.waiting
  pub spared : placed.spared ≡ next.spared
  pub each : (at : Key) (id : List ℕ) → map.get placed.beside at ≡ Some id
      → (map.get next.beside at ≡ Some id) ⊎ (is_spared next (fs_key id) ≡ true)
  pub finds : Finds names placed new

-- the object under an id can't be read, or the store failed
abbrev pub IsReadFaultAt : Objects → List ℕ → WalkFault → Type 0
IsReadFaultAt objects id fault = AnswersRead {T = FsObject} objects (fs_at objects id) (Err fault)

-- such a fault of the object of a key, or of what stands beside it
pub data IsFsFault (objects all : Objects) (key : Key) (c : ComparedView) (fault : WalkFault) : Type 0 where
  of_object : AnswersRead {T = FsObject} objects (fs_at all key.id) (Err fault) → IsFsFault objects all key c fault
  of_older : (id : List ℕ) → map.get c.beside key ≡ Some id → IsReadFaultAt objects id fault → IsFsFault objects all key c fault
