-- The head's directory, where it is right as it stands. Our own. Read ListSame, then UsesHeads; of the private part StandsAs, then
-- ListsJust and FindsOwn.
use Rattle.std.specs.Prelude.{◌≡◌, ◌≢◌, ℕ, ℤ, true, List, [], Option, Some, None, option_and_then, option_map}
use Rattle.std.specs.FinMap as map
use Rattle.ids.specs.Key.{Objects}
use Rattle.ids.specs.ObjectId.{nil}
use Rattle.tree_model.specs.Path.{PathV, path_cmp}
use Rattle.fs_objects.specs.Mode.{is_directory_mode}
use Rattle.fs_objects.specs.declared.dirent.Dirent.{Dirent}
use Rattle.object_graph.specs.Objects.{directory_in, dirents_at, entry_named, entry_of}
use Rattle.object_graph.specs.Unchanged.{Keeps}
use Rattle.object_graph.specs.declared.entry.Entry.{Entry}
use Rattle.tree_merge.specs.Opening.{id_in}
use Rattle.tree_merge.specs.Level.{Dirents, Tells}
use Rattle.tree_merge.specs.Sides.{Entries}
use Rattle.tree_merge.specs.TreeBuilding.{directory_id_at}
use Rattle.tree_merge.specs.declared.merging.Merged.{Merged}
use Rattle.tree_merge.specs.declared.opening.Kept.{Kept}

-- two directories list the same: under each name the same entry, and where that is a directory, the same one
abbrev pub ListSame : (one other : List Dirent) → Type 0
ListSame one other = (name : List ℕ) → (option_map entry_of (entry_named name one) ≡ option_map entry_of (entry_named name other))
    × (directory_in (entry_named name one) ≡ directory_in (entry_named name other))

-- among more objects, a directory below a root that isn't empty, and lists what the head's directory at its path lists, is that one
abbrev pub IsHeads : (objects more : Objects) → (head : Option (List ℕ)) → (root : List ℕ) → Type 0
IsHeads objects more head root = (dir : PathV) (own id : List ℕ) → id ≢ nil → option_and_then (λ h. directory_id_at objects h dir) head ≡ Some own
    → directory_id_at more root dir ≡ Some id → ListSame (dirents_at objects own) (dirents_at more id) → id ≡ own

-- so are those of the merged tree
abbrev pub UsesHeads : Objects → (head : List ℕ) → Merged → Type 0
UsesHeads objects head merged = (more : Objects) → Keeps objects more → Keeps merged.made more → IsHeads objects more (Some head) merged.root

-- ---- for private clauses

-- a directory's entry stands for this one, and where it is a directory it has this id, whatever else it tells of it
abbrev pub StandsAs : List ℕ → Entry → Dirent → Type 0
StandsAs own entry e = (entry_of e ≡ entry) × (is_directory_mode e.mode ≡ true → e.id ≡ own)

-- a directory's entries, each at the path of its name, stand for just these, and its directories are what is left below them
pub record ListsJust (listed : Dirents) (nodes : Entries) (kept : map.FinMap path_cmp Kept) : Type 0 where
  pub here : (path : PathV) → map.get nodes path ≡ option_map entry_of (map.get listed path)
  pub below : (path : PathV) (e : Dirent) → map.get listed path ≡ Some e → is_directory_mode e.mode ≡ true → e.id ≡ id_in (map.get kept path)

-- the directory of an id does so
pub record IsRight (objects : Objects) (id : List ℕ) (nodes : Entries) (kept : map.FinMap path_cmp Kept) : Type 0 where
  pub listed : Dirents
  pub tells : Tells [] (dirents_at objects id) listed
  pub just : ListsJust listed nodes kept

-- the directory of the head, if it is right as it stands, and none only where it isn't
abbrev pub FindsOwn : Objects → Option (List ℕ) → Entries → map.FinMap path_cmp Kept → Option (List ℕ) → Type 0
FindsOwn objects head nodes kept None = (id : List ℕ) → head ≡ Some id → IsRight objects id nodes kept → ⊥
FindsOwn objects head nodes kept (Some own) = (head ≡ Some own) × IsRight objects own nodes kept

-- a directory's entry tells this of a file
pub record IsSameFile (e : Dirent) (id : List ℕ) (mode : ℕ) (mtime : ℤ) (modifier : List ℕ) (size : ℕ) : Type 0 where
  pub own : e.id ≡ id
  pub kind : e.mode ≡ mode
  pub changed : e.mtime ≡ mtime
  pub by : e.modifier ≡ modifier
  pub bytes : e.size ≡ size
