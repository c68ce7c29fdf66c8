-- What the bytes under an id mean: a file's contents, or the tree below a directory. Our own.
-- The id of forty zeros has no object. It stands for a file of no bytes, and for a directory of no entries.
-- Read fs_at and commit_at, then contents_of, entry_below and IsTreeOf.
use Rattle.std.specs.Prelude.{◌≡◌, ◌↔◌, ℕ, Bool, nat_eq, if◌then◌else◌, List, [], ◌∷◌, ◌++◌, Option, None, Some, option_map, option_and_then, unwrap_or, Result, Ok, Err}
use Rattle.std.specs.Cmp.Lexicographic.{pointwise, slice_cmp}
use Rattle.std.specs.FinMap as map
use Rattle.std.specs.Ordering.{nat_cmp, eq_by_cmp}
use Rattle.std.specs.declared.cmp.Ordering.{Ordering}
use Rattle.ids.specs.Key.{Objects}
use Rattle.ids.specs.ObjectId.{nil}
use Rattle.ids.specs.declared.key.Key.{Key}
use Rattle.ids.specs.declared.key.Kind.TheVariants as kind
use Rattle.tree_model.specs.Path.{PathV, path_cmp}
use Rattle.tree_model.specs.Tree.{Tree}
use Rattle.tree_model.specs.declared.node.Node.{Node}
use Rattle.tree_model.specs.declared.node.Node.TheVariants as node
use Rattle.fs_objects.specs.FsObject.{fs_of}
use Rattle.fs_objects.specs.Mode.{is_directory_mode}
use Rattle.fs_objects.specs.declared.dirent.Dirent.{Dirent}
use Rattle.fs_objects.specs.declared.fault.BadFs.{BadFs}
use Rattle.fs_objects.specs.declared.fs_object.FsObject.{FsObject}
use Rattle.fs_objects.specs.declared.fs_object.FsObject.TheVariants as fs
use Rattle.commit_objects.specs.Commit.{commit_of}
use Rattle.commit_objects.specs.declared.commit.Commit.{Commit}
use Rattle.commit_objects.specs.declared.fault.BadCommit.{BadCommit}
use Rattle.object_graph.specs.declared.entry.Entry.{Entry}
use Rattle.object_graph.specs.declared.entry.Entry.TheVariants as entry
use Rattle.object_graph.specs.declared.fault.TreeFault.{TreeFault}
use Rattle.object_graph.specs.declared.fault.TreeFault.TheVariants.{Incomplete, Unreadable}

-- the keys of a commit, of a file or directory object, and of a block
abbrev pub commit_key : List ℕ → Key
commit_key id = record { kind = kind.Commit; id = id }

abbrev pub fs_key : List ℕ → Key
fs_key id = record { kind = kind.Fs; id = id }

abbrev pub block_key : List ℕ → Key
block_key id = record { kind = kind.Block; id = id }

abbrev pub same_id : List ℕ → List ℕ → Bool
same_id = pointwise nat_eq

-- whether an id is forty zeros
abbrev pub is_nil : List ℕ → Bool
is_nil id = same_id id nil

-- ---- what is stored under an id

-- the object that some bytes were read as, and else the key is unreadable
abbrev pub as_read : Key → Result FsObject BadFs → Result FsObject TreeFault
as_read key (Ok object) = Ok object
as_read key (Err bad) = Err (Unreadable key)

abbrev pub fs_in : Key → Option (List ℕ) → Result FsObject TreeFault
fs_in key None = Err (Incomplete key)
fs_in key (Some bytes) = as_read key (fs_of bytes)

-- the commit, if its own name is this id
abbrev pub of_name : List ℕ → Result Commit BadCommit → Result Commit TreeFault
of_name id (Ok commit) = if same_id commit.id id then Ok commit else Err (Unreadable (commit_key id))
of_name id (Err bad) = Err (Unreadable (commit_key id))

abbrev pub commit_in : List ℕ → Option (List ℕ) → Result Commit TreeFault
commit_in id None = Err (Incomplete (commit_key id))
commit_in id (Some bytes) = of_name id (commit_of bytes)

-- the entries of a directory, in the order in which it lists them
abbrev pub entries_of : Result FsObject TreeFault → List Dirent
entries_of (Ok (fs.Dir entries)) = entries
entries_of (Ok (fs.File file)) = []
entries_of (Err fault) = []

-- the blocks of a file
abbrev pub blocks_of : Result FsObject TreeFault → List (List ℕ)
blocks_of (Ok (fs.Dir entries)) = []
blocks_of (Ok (fs.File file)) = file.blocks
blocks_of (Err fault) = []

-- ---- entries of one directory

-- names stand in the order of their bytes
abbrev pub name_cmp : List ℕ → List ℕ → Ordering
name_cmp = slice_cmp nat_cmp

-- the entry of this name
abbrev pub entry_named : List ℕ → List Dirent → Option Dirent
entry_named name [] = None
entry_named name (e ∷ entries) = if eq_by_cmp name_cmp name e.name then Some e else entry_named name entries

-- the entries under their names
abbrev pub by_name : List Dirent → map.FinMap name_cmp Dirent
by_name [] = map.empty
by_name (e ∷ entries) = map.insert (by_name entries) e.name e

-- the entries in ascending byte order of name
abbrev pub in_name_order : List Dirent → List Dirent
in_name_order entries = map.values (by_name entries)

-- what a directory tells of one of its entries
abbrev pub entry_of : Dirent → Entry
entry_of e = if is_directory_mode e.mode then entry.Dir else entry.File e.id e.mode e.mtime e.modifier e.size

-- the id of the entry, where it is a directory
abbrev pub directory_in : Option Dirent → Option (List ℕ)
directory_in None = None
directory_in (Some e) = if is_directory_mode e.mode then Some e.id else None

module _ (objects : Objects) where
  -- the file or directory object that is stored under an id: incomplete where none is, and unreadable where its
  -- bytes are none
  abbrev pub fs_at : List ℕ → Result FsObject TreeFault
  fs_at id = fs_in (fs_key id) (map.get objects (fs_key id))

  -- the commit that is stored under an id: incomplete where none is, and unreadable where its bytes are no commit of
  -- that name
  abbrev pub commit_at : List ℕ → Result Commit TreeFault
  commit_at id = commit_in id (map.get objects (commit_key id))

  -- ---- contents of a file

  abbrev pub block_bytes : List ℕ → List ℕ
  block_bytes id = unwrap_or (map.get objects (block_key id)) []

  -- the bytes of blocks, joined in order
  abbrev pub joined : List (List ℕ) → List ℕ
  joined [] = []
  joined (id ∷ ids) = block_bytes id ++ joined ids

  abbrev pub blocks_at : List ℕ → List (List ℕ)
  blocks_at id = if is_nil id then [] else blocks_of (fs_at id)

  -- the contents of a file: the joined bytes of the blocks that its object names, and no bytes for forty zeros
  abbrev pub contents_of : List ℕ → List ℕ
  contents_of id = joined (blocks_at id)

  -- ---- what lies below a directory

  abbrev pub dirents_at : List ℕ → List Dirent
  dirents_at id = if is_nil id then [] else entries_of (fs_at id)

  -- the entry at a path below a directory that has these entries
  abbrev pub entry_in : List Dirent → PathV → Option Entry
  entry_in entries [] = None
  entry_in entries (name ∷ []) = option_map entry_of (entry_named name entries)
  entry_in entries (name ∷ next ∷ path) = option_and_then (λ id. entry_in (dirents_at id) (next ∷ path)) (directory_in (entry_named name entries))

  -- the entry at a path below a directory
  abbrev pub entry_below : PathV → List ℕ → Option Entry
  entry_below path id = entry_in (dirents_at id) path

  -- the entries of a root: what stands at each path below it
  abbrev pub AreEntriesOf : List ℕ → map.FinMap path_cmp Entry → Type 0
  AreEntriesOf root entries = (path : PathV) → map.get entries path ≡ entry_below path root

  -- the node of a tree that an entry stands for: of a file the contents, without the size that its directory tells
  abbrev pub node_of : Entry → Node
  node_of entry.Dir = node.Dir
  node_of (entry.File id mode mtime modifier size) = node.File (record { mode = mode; mtime = mtime; modifier = modifier; bytes = contents_of id })

  abbrev pub node_below : PathV → List ℕ → Option Node
  node_below path id = option_map node_of (entry_below path id)

  -- the tree of a root: what stands at each path below it
  abbrev pub IsTreeOf : List ℕ → Tree → Type 0
  IsTreeOf root tree = (path : PathV) → map.get tree path ≡ node_below path root

-- ---- where a directory has no object

-- a root is forty zeros exactly where its tree has no path
abbrev pub IsNilWhereNoPath : Tree → List ℕ → Type 0
IsNilWhereNoPath tree root = (root ≡ nil) ↔ ((path : PathV) → map.get tree path ≡ None)

-- a directory's id is forty zeros exactly where the tree has nothing in it
abbrev pub IsNilWhereNone : Tree → PathV → List ℕ → Type 0
IsNilWhereNone tree dir id = (id ≡ nil) ↔ ((name : List ℕ) → map.get tree (dir ++ name ∷ []) ≡ None)
