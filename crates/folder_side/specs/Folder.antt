-- What a folder holds, and what its calls give and change. Our own. Read Contents, then IsFolder.
use Rattle.std.specs.Prelude.{◌≡◌, ◌≢◌, ◌⊎◌, ℕ, ◌<◌, ◌≤◌, ◌↔◌, Bool, true, false, if◌then◌else◌, List, [], ◌∷◌, ◌++◌, length, take, drop, nat_eq, Option, Some, None, IsSome, unwrap_or, Result, Ok, Err, ⊤}
use Rattle.std.specs.Option.{option_map}
use Rattle.std.specs.List.{filter_map}
use Rattle.std.specs.Cmp.Lexicographic.{pointwise}
use Rattle.std.specs.FinMap as map
use Rattle.ids.specs.FaultCount.{FailsBy}
use Rattle.tree_model.specs.DirectorySurvival.{is_under}
use Rattle.tree_model.specs.Path.{PathV, IsPath, path_cmp, parent_of}
use Rattle.folder_side.specs.declared.error.FolderFault.{FolderFault}
use Rattle.folder_side.specs.declared.error.FolderFault.TheVariants.{Folder, NoMemory}
use Rattle.folder_side.specs.declared.holding.Holding.{Holding}
use Rattle.folder_side.specs.declared.holding.Holding.TheVariants.{Dir, File, Other}
use Rattle.folder_side.specs.declared.folder.ItemKind.{ItemKind}
use Rattle.folder_side.specs.declared.folder.ItemKind.TheVariants as kind
use Rattle.folder_side.specs.declared.folder.Item.{Item}
use Rattle.folder_side.specs.declared.folder.Listing.{Listing}

-- what stands at each path but the root, and how many entries of each directory have no good name; the root
-- is the folder itself
pub record Contents : Type 0 where
  pub paths : map.FinMap path_cmp Holding
  pub nameless : map.FinMap path_cmp ℕ

-- an entry that is neither a file nor a directory
abbrev pub is_other : Holding → Bool
is_other Dir = false
is_other (File bytes) = false
is_other Other = true

abbrev pub at : Contents → PathV → Option Holding
at c path = map.get c.paths path

abbrev pub is_dir : Option Holding → Bool
is_dir None = false
is_dir (Some Dir) = true
is_dir (Some (File bytes)) = false
is_dir (Some Other) = false

-- the folder itself, or a directory in it
abbrev pub is_dir_at : Contents → PathV → Bool
is_dir_at c [] = true
is_dir_at c (name ∷ path) = is_dir (at c (name ∷ path))

abbrev pub nameless_at : Contents → PathV → ℕ
nameless_at c dir = unwrap_or (map.get c.nameless dir) 0

-- each entry stands in a directory, and each path is one of good names
pub record IsFolder (c : Contents) : Type 0 where
  pub no_root : at c [] ≡ None
  pub in_dirs : (dir : PathV) (name : List ℕ) → dir ≢ [] → IsSome (at c (dir ++ name ∷ [])) → at c dir ≡ Some Dir
  pub named : (path : PathV) → IsSome (at c path) → IsPath path
  pub nameless_in_dirs : (dir : PathV) → dir ≢ [] → 0 < nameless_at c dir → at c dir ≡ Some Dir

-- ---- what a listing gives

abbrev pub kind_of : Holding → ItemKind
kind_of Dir = kind.Dir
kind_of (File bytes) = kind.File
kind_of Other = kind.Other

-- the name under which a path stands in a directory, if it does
abbrev pub name_in : PathV → PathV → Option (List ℕ)
name_in [] [] = None
name_in [] (name ∷ []) = Some name
name_in [] (name ∷ next ∷ path) = None
name_in (dir ∷ dirs) [] = None
name_in (dir ∷ dirs) (name ∷ path) = if pointwise nat_eq dir name then name_in dirs path else None

abbrev pub item_of : PathV → PathV × Holding → Option Item
item_of dir entry = option_map (λ name. record { name = name; kind = kind_of entry.1 }) (name_in dir entry.0)

-- the entries of a directory in byte order of path, which is that of the names in one directory
abbrev pub items_in : Contents → PathV → List Item
items_in c dir = filter_map (item_of dir) (map.entries c.paths)

abbrev pub listing_in : Contents → PathV → Listing
listing_in c dir = record { items = items_in c dir; nameless = nameless_at c dir }

-- the folder itself and the directories in it have a listing
abbrev pub listing_at : Contents → PathV → Option Listing
listing_at c dir = if is_dir_at c dir then Some (listing_in c dir) else None

-- ---- what a read gives

-- the first `count` bytes behind a place stand in `into`, and there are none exactly at the end
pub record IsPart (bytes : List ℕ) (place count : ℕ) (into : List ℕ) : Type 0 where
  pub same : take count into ≡ take count (drop place bytes)
  pub inside : count ≤ length (drop place bytes)
  pub ends : (count ≡ 0) ↔ (drop place bytes ≡ [])

abbrev pub PartAt : Option Holding → ℕ → ℕ → List ℕ → Type 0
PartAt None place count into = ⊥
PartAt (Some Dir) place count into = ⊥
PartAt (Some (File bytes)) place count into = IsPart bytes place count into
PartAt (Some Other) place count into = ⊥

-- ---- where a change may be made

-- an entry may stand at a path where it has a directory to stand in
pub record CanStand (c : Contents) (path : PathV) : Type 0 where
  pub other : path ≢ []
  pub in_dir : is_dir_at c (parent_of path) ≡ true

-- a directory is made where nothing is
pub record IsFree (c : Contents) (path : PathV) : Type 0 where
  pub stands : CanStand c path
  pub free : at c path ≡ None

-- a file moves to a path where nothing is, or in place of a file
abbrev pub HasNoneButFile : Option Holding → Type 0
HasNoneButFile None = ⊤
HasNoneButFile (Some Dir) = ⊥
HasNoneButFile (Some (File bytes)) = ⊤
HasNoneButFile (Some Other) = ⊥

pub record TakesFile (c : Contents) (path : PathV) : Type 0 where
  pub stands : CanStand c path
  pub free : HasNoneButFile (at c path)

-- a directory is empty where nothing is under it, and no entry without a good name
pub record IsEmptyDir (c : Contents) (dir : PathV) : Type 0 where
  pub under : (path : PathV) → is_under dir path ≡ true → at c path ≡ None
  pub nameless : nameless_at c dir ≡ 0

-- a file or an empty directory can be removed
abbrev pub IsRemovable : Contents → PathV → Option Holding → Type 0
IsRemovable c path None = ⊥
IsRemovable c path (Some Dir) = IsEmptyDir c path
IsRemovable c path (Some (File bytes)) = ⊤
IsRemovable c path (Some Other) = ⊥

-- ---- what a change leaves

abbrev pub with_holding : PathV → Holding → Contents → Contents
with_holding path holding c = record c { paths = map.insert c.paths path holding }

abbrev pub with_file : PathV → List ℕ → Contents → Contents
with_file path bytes = with_holding path (File bytes)

abbrev pub with_dir : PathV → Contents → Contents
with_dir path = with_holding path Dir

abbrev pub without : PathV → Contents → Contents
without path c = record c { paths = map.remove c.paths path }

-- after success the change was made, and after an error it was made or not
abbrev pub Changes : {T E : Type 0} → (Contents → Contents) → Option Contents → Option Contents → Result T E → Type 0
Changes change old new (Ok x) = new ≡ option_map change old
Changes change old new (Err e) = (new ≡ old) ⊎ (new ≡ option_map change old)

-- ---- the count of faults

abbrev pub is_folder_fault : FolderFault → Bool
is_folder_fault Folder = true
is_folder_fault NoMemory = false

abbrev pub FolderFails : {T : Type 0} → ℕ → ℕ → Result T FolderFault → Type 0
FolderFails before now result = FailsBy is_folder_fault before now result
