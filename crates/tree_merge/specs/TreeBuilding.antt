-- The objects of a tree that is given by its entries. Our own. Read IsSound, then IsDirectoryOf, IsDirectoryText and IsClash.
use Rattle.std.specs.Prelude.{◌≡◌, ◌≢◌, ◌⊎◌, ◌↔◌, ℕ, true, List, [], ◌∷◌, ◌++◌, Option, Some, None, IsSome, All, option_map, option_and_then, pos, if◌then◌else◌, Ok, ⊤}
use Rattle.std.specs.List.{IsDistinct}
use Rattle.std.specs.Str.{bytes_eq}
use Rattle.std.specs.FinMap as map
use Rattle.std.specs.Ordering.{eq_by_cmp}
use Rattle.sha1.specs.Sha1.{sha1}
use Rattle.ids.specs.Key.{Objects}
use Rattle.ids.specs.ObjectId.{nil}
use Rattle.ids.specs.declared.key.Key.{Key}
use Rattle.ids.specs.declared.key.Kind.TheVariants as kind
use Rattle.tree_model.specs.Path.{PathV, path_cmp}
use Rattle.fs_objects.specs.Directory.{names_of}
use Rattle.fs_objects.specs.FsObject.{fs_of}
use Rattle.fs_objects.specs.Mode.{is_directory_mode, is_file_mode}
use Rattle.fs_objects.specs.Proper.{IsProperEntry}
use Rattle.fs_objects.specs.Spelling.{in_written_order}
use Rattle.fs_objects.specs.declared.dirent.Dirent.{Dirent}
use Rattle.fs_objects.specs.declared.fs_object.FsObject.TheVariants as fs
use Rattle.fs_objects.specs.declared.mode.TheConstants.{DIRECTORY_TYPE}
use Rattle.object_graph.specs.Objects.{fs_key, dirents_at, entry_in, entry_named, entry_of, directory_in}
use Rattle.object_graph.specs.Unchanged.{Keeps}
use Rattle.object_graph.specs.declared.entry.Entry.{Entry}
use Rattle.object_graph.specs.declared.entry.Entry.TheVariants as entry
use Rattle.tree_merge.specs.FileEntry.{as_entry}
use Rattle.tree_merge.specs.Sides.{Entries}
use Rattle.tree_merge.specs.declared.file_entry.FileEntry.{FileEntry}
use Rattle.tree_merge.specs.declared.opening.Kept.{Kept}
use Rattle.tree_merge.specs.declared.tree_builder.BuildFault.{BuildFault}
use Rattle.tree_merge.specs.declared.tree_builder.BuildFault.TheVariants.{Taken, NoMemory}

-- each entry stands in a directory, and each file has a file's mode
pub record IsSound (entries : Entries) : Type 0 where
  pub no_root : map.get entries [] ≡ None
  pub in_dirs : (dir : PathV) (name : List ℕ) → dir ≢ [] → IsSome (map.get entries (dir ++ name ∷ [])) → map.get entries dir ≡ Some entry.Dir
  pub modes : (path : PathV) (file : FileEntry) → map.get entries path ≡ Some (as_entry file) → is_file_mode file.mode ≡ true

module _ (objects : Objects) where
  -- the id of the directory at a path below a directory that has these entries
  abbrev pub directory_id_in : List Dirent → PathV → Option (List ℕ)
  directory_id_in entries [] = None
  directory_id_in entries (name ∷ []) = directory_in (entry_named name entries)
  directory_id_in entries (name ∷ next ∷ path) =
      option_and_then (λ id. directory_id_in (dirents_at objects id) (next ∷ path)) (directory_in (entry_named name entries))

  -- the same of a root, which stands at no names
  abbrev pub directory_id_at : List ℕ → PathV → Option (List ℕ)
  directory_id_at root [] = Some root
  directory_id_at root (name ∷ path) = directory_id_in (dirents_at objects root) (name ∷ path)

  -- the id is that of a directory of the tree: of the root, or of one at a path below it
  abbrev pub IsDirectoryOf : List ℕ → List ℕ → Type 0
  IsDirectoryOf root id = (id ≡ root) ⊎ ((path : PathV) × (directory_id_in (dirents_at objects root) path ≡ Some id))

-- an object was made under this id
abbrev pub HasMade : Objects → List ℕ → Type 0
HasMade made id = IsSome (map.get made (fs_key id))

-- each object that was made is one of a file or directory, under the SHA-1 of its bytes, which isn't forty zeros
pub record IsOwnName (key : Key) (bytes : List ℕ) : Type 0 where
  pub is_fs : key.kind ≡ kind.Fs
  pub is_sha1 : key.id ≡ sha1 bytes
  pub some : key.id ≢ nil

abbrev pub AreNamed : Objects → Type 0
AreNamed made = (key : Key) (bytes : List ℕ) → map.get made key ≡ Some bytes → IsOwnName key bytes

-- a directory's id is forty zeros exactly where the tree has nothing in it
abbrev pub IsNilWhereEmpty : Entries → PathV → List ℕ → Type 0
IsNilWhereEmpty entries dir id = (id ≡ nil) ↔ ((name : List ℕ) → map.get entries (dir ++ name ∷ []) ≡ None)

-- the bytes are those of a directory of the tree that isn't empty: the tree has, under each name below some path, what the
-- entry of that name is
pub record IsDirectoryText (entries : Entries) (bytes : List ℕ) : Type 0 where
  pub path : PathV
  pub is_dir : (path ≡ []) ⊎ (map.get entries path ≡ Some entry.Dir)
  pub dirents : List Dirent
  pub reads : fs_of bytes ≡ Ok (fs.Dir dirents)
  pub some : dirents ≢ []
  pub told : (name : List ℕ) → option_map entry_of (entry_named name dirents) ≡ map.get entries (path ++ name ∷ [])
  pub zeros : (name : List ℕ) (e : Dirent) → entry_named name dirents ≡ Some e → is_directory_mode e.mode ≡ true → IsNilWhereEmpty entries (path ++ name ∷ []) e.id

-- an id of a directory: forty zeros, or that of an object that was made
abbrev pub IsNilOrMade : Objects → List ℕ → Type 0
IsNilOrMade made id = (id ≡ nil) ⊎ HasMade made id

-- each object that was made is a directory of the tree, and so is each directory that it lists
pub record AreDirectories (entries : Entries) (made : Objects) : Type 0 where
  pub texts : (key : Key) (bytes : List ℕ) → map.get made key ≡ Some bytes → IsDirectoryText entries bytes
  pub below : (key : Key) (bytes : List ℕ) → map.get made key ≡ Some bytes → (dirents : List Dirent) → fs_of bytes ≡ Ok (fs.Dir dirents)
      → (name : List ℕ) (e : Dirent) → entry_named name dirents ≡ Some e → is_directory_mode e.mode ≡ true → IsNilOrMade made e.id

-- a directory of the tree has this SHA-1, which is forty zeros, or that of another directory of the tree
pub record IsClash (entries : Entries) (id : List ℕ) : Type 0 where
  pub bytes : List ℕ
  pub own : id ≡ sha1 bytes
  pub text : IsDirectoryText entries bytes
  pub clash : (id ≡ nil) ⊎ ((other : List ℕ) × (other ≢ bytes) × (id ≡ sha1 other) × IsDirectoryText entries other)

-- two things have one name: some bytes have this SHA-1, which is forty zeros, or that of other bytes too
pub record IsCollision (id : List ℕ) : Type 0 where
  pub bytes : List ℕ
  pub own : id ≡ sha1 bytes
  pub clash : (id ≡ nil) ⊎ ((other : List ℕ) × (other ≢ bytes) × (id ≡ sha1 other))

-- of any entries, a refusal as taken is for such an id
abbrev pub IsCausedInBuild : BuildFault → Type 0
IsCausedInBuild (Taken id) = IsCollision id
IsCausedInBuild NoMemory = ⊤

-- ---- for private clauses

-- the entries that a directory has so far
abbrev pub held_at : Option (List Dirent) → List Dirent
held_at None = []
held_at (Some entries) = entries

-- the entry of a directory
abbrev pub dirent_of : List ℕ → List ℕ → Dirent
dirent_of name id = record { name = name; id = id; mode = DIRECTORY_TYPE; mtime = pos 0; modifier = []; size = 0 }

-- an object with these bytes was made under the id
pub record IsMade (made : Objects) (id bytes : List ℕ) : Type 0 where
  pub there : map.get made (fs_key id) ≡ Some bytes
  pub some : id ≢ nil

-- the object under the id has these entries, in the order in which they are written; none is stored under forty zeros
pub record IsWritten (made : Objects) (id : List ℕ) (entries : List Dirent) : Type 0 where
  pub some : entries ≢ []
  pub bytes : List ℕ
  pub there : map.get made (fs_key id) ≡ Some bytes
  pub reads : All IsProperEntry entries → fs_of bytes ≡ Ok (fs.Dir (in_written_order entries))

-- among all objects that have those made, the directory of this id has these entries
pub record Lists (made : Objects) (id : List ℕ) (entries : List Dirent) : Type 0 where
  pub names : All IsProperEntry entries → (objects : Objects) → Keeps made objects → (name : List ℕ) → entry_named name (dirents_at objects id) ≡ entry_named name entries
  pub distinct : IsDistinct bytes_eq (names_of entries)
  pub written : (id ≡ nil) ⊎ IsWritten made id entries

-- an object with these bytes can't be made: its id is forty zeros, or that of other bytes that were made
pub record IsRefused (made : Objects) (bytes id : List ℕ) : Type 0 where
  pub own : id ≡ sha1 bytes
  pub clash : (id ≡ nil) ⊎ ((other : List ℕ) × (other ≢ bytes) × (map.get made (fs_key id) ≡ Some other))

-- nor can a directory of these entries
pub record IsRefusedList (made : Objects) (entries : List Dirent) (id : List ℕ) : Type 0 where
  pub some : entries ≢ []
  pub bytes : List ℕ
  pub reads : All IsProperEntry entries → fs_of bytes ≡ Ok (fs.Dir (in_written_order entries))
  pub distinct : IsDistinct bytes_eq (names_of entries)
  pub refused : IsRefused made bytes id

-- the entry of a directory whose object lists these
pub record IsDirectoryMade (made : Objects) (name : List ℕ) (entries : List Dirent) (dirent : Dirent) : Type 0 where
  pub is : dirent ≡ dirent_of name dirent.id
  pub lists : Lists made dirent.id entries

abbrev pub Held : Type 0
Held = map.FinMap path_cmp (List Dirent)

-- what the directories have once one of them gave its entries away
abbrev pub emptied : PathV → Held → PathV → List Dirent
emptied path held q = if eq_by_cmp path_cmp q path then [] else held_at (map.get held q)

-- ---- directories that are kept by their ids

-- the id of the directory that is kept at a path
abbrev pub kept_ids : map.FinMap path_cmp Kept → PathV → Option (List ℕ)
kept_ids kept path = option_map (λ own. own.id) (map.get kept path)

-- the objects among which directories are kept: those that are stored, and those that were made
pub record Given : Type 0 where
  pub stored : Objects
  pub made : Objects

abbrev pub AreThere : Given → Objects → Type 0
AreThere given objects = Keeps given.stored objects × Keeps given.made objects

-- entries are those of a whole tree but for what lies below directories that are kept by their ids; below such an id stands,
-- among these objects, what the tree has there
pub record IsShownPart (given : Given) (kept : PathV → Option (List ℕ)) (whole entries : Entries) : Type 0 where
  pub sound : IsSound whole
  pub nodes : IsSound entries
  pub top : kept [] ≡ None
  pub shown : (path : PathV) → IsSome (map.get entries path) → map.get entries path ≡ map.get whole path
  pub none : (dir : PathV) (name : List ℕ) (path : PathV) → (dir ≡ []) ⊎ IsSome (map.get entries dir) → kept dir ≡ None → map.get entries (dir ++ name ∷ []) ≡ None
      → map.get whole (dir ++ name ∷ path) ≡ None
  pub stands : (dir : PathV) (id : List ℕ) → kept dir ≡ Some id → map.get entries dir ≡ Some entry.Dir
  pub hidden : (dir : PathV) (name : List ℕ) → IsSome (kept dir) → map.get entries (dir ++ name ∷ []) ≡ None
  pub below : (dir : PathV) (id : List ℕ) → kept dir ≡ Some id → (objects : Objects) → AreThere given objects → (name : List ℕ) (path : PathV)
      → entry_in objects (dirents_at objects id) (name ∷ path) ≡ map.get whole (dir ++ name ∷ path)
  pub some : (dir : PathV) (id : List ℕ) → kept dir ≡ Some id → IsNilWhereEmpty whole dir id

-- what a directory tells of another: the id that is kept, or that of the object that was made
abbrev pub IsListed : Objects → List ℕ → Option (List ℕ) → List Dirent → Dirent → Type 0
IsListed made name None entries dirent = IsDirectoryMade made name entries dirent
IsListed made name (Some id) entries dirent = dirent ≡ dirent_of name id

-- what a directory tells of an entry
abbrev pub IsEntryListed : Objects → List ℕ → Option (List ℕ) → Entry → List Dirent → Dirent → Type 0
IsEntryListed made name kept entry.Dir entries dirent = IsListed made name kept entries dirent
IsEntryListed made name kept (entry.File id mode mtime modifier size) entries dirent =
    dirent ≡ record { name = name; id = id; mode = mode; mtime = mtime; modifier = modifier; size = size }

-- the id of the object that was made for an entry
abbrev pub IsOwnListed : Option (List ℕ) → Entry → Dirent → List ℕ → Type 0
IsOwnListed None entry.Dir dirent id = id ≡ dirent.id
IsOwnListed None (entry.File own mode mtime modifier size) dirent id = ⊥
IsOwnListed (Some kept) entry dirent id = ⊥

-- an id of a directory: forty zeros, that of an object that was made, or one that is kept
abbrev pub IsNilMadeOrKept : (PathV → Option (List ℕ)) → Objects → List ℕ → Type 0
IsNilMadeOrKept kept made id = IsNilOrMade made id ⊎ ((dir : PathV) × (kept dir ≡ Some id))

-- each object that was made is a directory of the tree, and lists directories of the tree
pub record AreDirectoriesOver (kept : PathV → Option (List ℕ)) (entries : Entries) (made : Objects) : Type 0 where
  pub texts : (key : Key) (bytes : List ℕ) → map.get made key ≡ Some bytes → IsDirectoryText entries bytes
  pub below : (key : Key) (bytes : List ℕ) → map.get made key ≡ Some bytes → (dirents : List Dirent) → fs_of bytes ≡ Ok (fs.Dir dirents)
      → (name : List ℕ) (e : Dirent) → entry_named name dirents ≡ Some e → is_directory_mode e.mode ≡ true → IsNilMadeOrKept kept made e.id

-- an entry was listed in the directory that it stands in, by the id that is kept for it, if there is one
pub record HasListed (kept : Option (List ℕ)) (path : PathV) (given : Entry) (before after : Held) (old new : Objects) : Type 0 where
  pub dir : PathV
  pub name : List ℕ
  pub dirent : Dirent
  pub split : path ≡ dir ++ name ∷ []
  pub made : IsEntryListed new name kept given (held_at (map.get before path)) dirent
  pub told : (id : List ℕ) → HasMade new id → (HasMade old id) ⊎ IsOwnListed kept given dirent id
  pub listed : (q : PathV) → held_at (map.get after q) ≡ (if eq_by_cmp path_cmp q dir then emptied path before q ++ dirent ∷ [] else emptied path before q)

-- an entry is refused as taken for its own object alone
pub record IsRefusedEntry (kept : Option (List ℕ)) (given : Entry) (made : Objects) (entries : List Dirent) (id : List ℕ) : Type 0 where
  pub is_dir : given ≡ entry.Dir
  pub not_kept : kept ≡ None
  pub refused : IsRefusedList made entries id
