-- The times of the directories of a push. Our own. Read HasTimes. Read before: Generated; dirents_at of `object_graph`.
use Rattle.std.specs.Prelude.{◌≡◌, ◌≢◌, ◌⊎◌, ℕ, ℤ, Bool, not, true, false, if◌then◌else◌, List, [], ◌∷◌, Option, None, Some, option_map, Ok, ⊤}
use Rattle.std.specs.FinMap as map
use Rattle.std.specs.Str.{bytes_eq}
use Rattle.sha1.specs.Sha1.{sha1}
use Rattle.fs_objects.specs.FsObject.{fs_of}
use Rattle.fs_objects.specs.Mode.{is_directory_mode}
use Rattle.fs_objects.specs.declared.dirent.Dirent.{Dirent}
use Rattle.fs_objects.specs.declared.fs_object.FsObject.TheVariants as fs
use Rattle.ids.specs.Key.{Objects}
use Rattle.ids.specs.ObjectId.{nil}
use Rattle.ids.specs.declared.key.Key.{Key}
use Rattle.library_rules.specs.LibraryState.{is_stored}
use Rattle.object_graph.specs.Objects.{AreEntriesOf, dirents_at, entry_named, fs_key}
use Rattle.object_graph.specs.Unchanged.{Keeps}
use Rattle.object_graph.specs.declared.entry.Entry.{Entry}
use Rattle.object_graph.specs.declared.entry.Entry.TheVariants as entry
use Rattle.tree_model.specs.Path.{PathV}
use Rattle.tree_merge.specs.Sides.{Entries}
use Rattle.tree_merge.specs.TreeBuilding.{IsDirectoryOf, IsRefused}
use Rattle.tree_merge.specs.declared.tree_builder.BuildFault.{BuildFault}
use Rattle.tree_merge.specs.declared.tree_builder.BuildFault.TheVariants.{NoMemory, Taken}
use Rattle.generated_library.specs.Generated.{time_of}

-- each directory that a root lists has the mode of a directory without permissions, and the time that files have which `make` wrote at
-- this moment
abbrev pub HasTimes : Objects → List ℕ → ℕ → Type 0
HasTimes objects root moment =
    (name : List ℕ) (e : Dirent) → entry_named name (dirents_at objects root) ≡ Some e → is_directory_mode e.mode ≡ true → (e.mode ≡ 16384) × (e.mtime ≡ time_of moment)

-- ---- for private clauses: entries of which the root alone lists directories

-- it is a file's, with the mode of each file of a push
abbrev pub HasFileMode : Entry → Type 0
HasFileMode entry.Dir = ⊥
HasFileMode (entry.File id mode mtime modifier size) = mode ≡ 33188

-- directories stand at the top, and files in them
abbrev pub FlatAt : Entries → PathV → Entry → Type 0
FlatAt entries [] e = ⊥
FlatAt entries (d ∷ []) e = e ≡ entry.Dir
FlatAt entries (d ∷ f ∷ []) e = (map.get entries (d ∷ []) ≡ Some entry.Dir) × HasFileMode e
FlatAt entries (d ∷ f ∷ g ∷ path) e = ⊥

pub record IsFlat (entries : Entries) : Type 0 where
  pub at : (path : PathV) (e : Entry) → map.get entries path ≡ Some e → FlatAt entries path e

-- ---- for private clauses: the root that is made anew

-- it is the key of the root, or of a directory below it, among all objects that have these
pub record IsOfRoot (stored : Objects) (root : List ℕ) (key : Key) : Type 0 where
  pub is_fs : key ≡ fs_key key.id
  pub some : key.id ≢ nil
  pub reached : (objects : Objects) → Keeps stored objects → IsDirectoryOf objects root key.id

-- and so is each key of what was made
abbrev pub AreOfRoot : Objects → List ℕ → Type 0
AreOfRoot made root = (key : Key) → is_stored made key ≡ true → IsOfRoot made root key

-- the root stands for the entries, and its directories have the time of this moment, among all objects that have those made
abbrev pub IsRootOf : ℕ → Entries → Objects → List ℕ → Type 0
IsRootOf moment entries made root = (objects : Objects) → Keeps made objects → AreEntriesOf objects root entries × HasTimes objects root moment

-- an entry of this time, if it is a directory's
abbrev pub entry_at : ℤ → Dirent → Dirent
entry_at time e = if is_directory_mode e.mode then record e { mode = 16384; mtime = time } else e

-- the object under an id was made, and lists these
pub record IsListedAs (made : Objects) (id : List ℕ) (dirents : List Dirent) : Type 0 where
  pub bytes : List ℕ
  pub there : map.get made (fs_key id) ≡ Some bytes
  pub reads : fs_of bytes ≡ Ok (fs.Dir dirents)

-- the bytes list the same, but for the times of directories
pub record IsTextAt (time : ℤ) (dirents : List Dirent) (bytes : List ℕ) : Type 0 where
  pub listed : List Dirent
  pub reads : fs_of bytes ≡ Ok (fs.Dir listed)
  pub told : (name : List ℕ) → entry_named name listed ≡ option_map (entry_at time) (entry_named name dirents)

-- an object was made under its own name, which no other object has
pub record IsPlaced (bytes : List ℕ) (old new : Objects) (id : List ℕ) : Type 0 where
  pub own : id ≡ sha1 bytes
  pub some : id ≢ nil
  pub alone : (other : List ℕ) → map.get old (fs_key id) ≡ Some other → other ≡ bytes
  pub is : new ≡ map.insert old (fs_key id) bytes

-- whether other bytes than these are there
abbrev pub is_other : List ℕ → Option (List ℕ) → Bool
is_other bytes None = false
is_other bytes (Some other) = not (bytes_eq other bytes)

-- in the place of the root there is one whose directories have this time
pub record IsReplaced (time : ℤ) (old : Objects) (root : List ℕ) (new : Objects) (id : List ℕ) : Type 0 where
  pub some : root ≢ nil
  pub dirents : List Dirent
  pub was : IsListedAs old root dirents
  pub bytes : List ℕ
  pub text : IsTextAt time dirents bytes
  pub placed : IsPlaced bytes (map.remove old (fs_key root)) new id

-- or such a one can't be made
pub record IsRootRefused (time : ℤ) (old : Objects) (root id : List ℕ) : Type 0 where
  pub dirents : List Dirent
  pub was : IsListedAs old root dirents
  pub bytes : List ℕ
  pub text : IsTextAt time dirents bytes
  pub refused : IsRefused (map.remove old (fs_key root)) bytes id

-- a refusal as taken is for such an id
abbrev pub IsTakenFor : (List ℕ → Type 0) → BuildFault → Type 0
IsTakenFor due (Taken id) = due id
IsTakenFor due NoMemory = ⊤

-- a root without an object stays
abbrev pub IsTimed : ℤ → Objects → List ℕ → Objects → List ℕ → Type 0
IsTimed time old root new id = ((root ≡ nil) × (id ≡ nil) × (new ≡ old)) ⊎ IsReplaced time old root new id
