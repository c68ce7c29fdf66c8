-- Over which objects a sync promises something: what it named has the bytes that it had, the index stands for its base, and no two
-- contents of the sync share a name. Our own. Read Over, at the end.
use Rattle.std.specs.Prelude.{ℕ, ◌≡◌, ◌≢◌, List, length, Option, None, Some, Ok, ⊤}
use Rattle.std.specs.FinMap as fin
use Rattle.std.specs.List.{Contains}
use Rattle.sha1.specs.Sha1.{sha1}
use Rattle.ids.specs.Key.{Objects}
use Rattle.ids.specs.ObjectId.{nil}
use Rattle.ids.specs.declared.key.Key.{Key}
use Rattle.tree_model.specs.Path.{PathV}
use Rattle.tree_model.specs.Tree.{Tree}
use Rattle.tree_model.specs.declared.node.FileVersion.{FileVersion}
use Rattle.tree_model.specs.declared.node.Node.{Node}
use Rattle.tree_model.specs.declared.node.Node.TheVariants as node
use Rattle.block_chunker.specs.ChunkBoundaries.{chunks_of}
use Rattle.block_chunker.specs.declared.cuts.Cuts.{Cuts}
use Rattle.commit_objects.specs.declared.commit.Commit.{Commit}
use Rattle.fs_objects.specs.Spelling.{text_of}
use Rattle.fs_objects.specs.declared.fs_object.FsObject.TheVariants as fs
use Rattle.object_graph.specs.Objects.{IsTreeOf, commit_at, contents_of, entry_below}
use Rattle.object_graph.specs.declared.entry.Entry.{Entry}
use Rattle.object_graph.specs.declared.entry.Entry.TheVariants as entry
use Rattle.folder_side.specs.Folder.{Contents, at}
use Rattle.folder_side.specs.ScanReport.{block_names}
use Rattle.folder_side.specs.declared.holding.Holding.TheVariants.{File}
use Rattle.local_index.specs.declared.index.Index.{Index}
use Rattle.local_index.specs.declared.index.Known.{Known}
use Rattle.local_index.specs.declared.index.Known.TheVariants as known
use Rattle.sync_rules.specs.Named.{HasAll}
use Rattle.sync_rules.specs.Offer.{own_of}

-- ---- an index stands for a tree

abbrev pub Knows : Cuts → Option Node → Option Known → Type 0
Knows cuts None None = ⊤
Knows cuts (Some node.Dir) (Some known.Dir) = ⊤
Knows cuts (Some (node.File file)) (Some (known.File id own size mode mtime modifier)) =
    (own ≡ own_of cuts file.bytes) × (mode ≡ file.mode) × (mtime ≡ file.mtime) × (modifier ≡ file.modifier)
Knows cuts _ _ = ⊥

abbrev pub Stands : Cuts → Index → Tree → Type 0
Stands cuts index tree = (path : PathV) → Knows cuts (fin.get tree path) (fin.get index.entries path)

-- each id of the index names its file
abbrev pub NamesFile : Objects → Option Node → Option Known → Type 0
NamesFile objects (Some (node.File file)) (Some (known.File id own size mode mtime modifier)) = contents_of objects id ≡ file.bytes
NamesFile objects _ _ = ⊤

abbrev pub NamesFiles : Objects → Index → Tree → Type 0
NamesFiles objects index tree = (path : PathV) → NamesFile objects (fin.get tree path) (fin.get index.entries path)

-- the tree of the base. An index without a base stands for nothing
abbrev pub IsBase : Objects → Option (List ℕ) → Tree → Type 0
IsBase objects None tree = (path : PathV) → fin.get tree path ≡ None
IsBase objects (Some id) tree = (commit : Commit) × (commit_at objects id ≡ Ok commit) × IsTreeOf objects commit.root tree

-- what an index knows of an entry of a tree: of a file its id, mode, time and author
abbrev pub KnowsEntry : Option Entry → Option Known → Type 0
KnowsEntry None None = ⊤
KnowsEntry (Some entry.Dir) (Some known.Dir) = ⊤
KnowsEntry (Some (entry.File id mode mtime modifier size)) (Some (known.File its own its_size its_mode its_mtime its_modifier)) =
    (its ≡ id) × (its_mode ≡ mode) × (its_mtime ≡ mtime) × (its_modifier ≡ modifier)
KnowsEntry _ _ = ⊥

abbrev pub KnowsRoot : Objects → (root : List ℕ) → Index → Type 0
KnowsRoot objects root index = (path : PathV) → KnowsEntry (entry_below objects path root) (fin.get index.entries path)

-- the size that an index tells of a file is that of its entry
abbrev pub KnowsSize : Option Entry → Option Known → Type 0
KnowsSize (Some (entry.File id mode mtime modifier size)) (Some (known.File its own its_size its_mode its_mtime its_modifier)) = its_size ≡ size
KnowsSize _ _ = ⊤

abbrev pub KnowsSizes : Objects → (root : List ℕ) → Index → Type 0
KnowsSizes objects root index = (path : PathV) → KnowsSize (entry_below objects path root) (fin.get index.entries path)

-- an index knows the entries of its base
abbrev pub KnowsBase : Objects → Option (List ℕ) → Index → Type 0
KnowsBase objects None index = ⊤
KnowsBase objects (Some id) index = (commit : Commit) → commit_at objects id ≡ Ok commit → KnowsRoot objects commit.root index

-- ---- names

-- a chunk of some bytes, or their file object
pub data IsPieceOf (cuts : Cuts) (bytes piece : List ℕ) : Type 0 where
  chunk : Contains (chunks_of cuts bytes) piece → IsPieceOf cuts bytes piece
  object : piece ≡ text_of (fs.File (record { blocks = block_names cuts bytes; size = length bytes })) → IsPieceOf cuts bytes piece

-- what has a name in a sync: the pieces of the folder's files and of those of the index, and what was sent or got
pub data InSync (cuts : Cuts) (c : Contents) (base : Tree) (had : List (Key × List ℕ)) (piece : List ℕ) : Type 0 where
  in_folder : (path : PathV) (bytes : List ℕ) → at c path ≡ Some (File bytes) → IsPieceOf cuts bytes piece → InSync cuts c base had piece
  in_index : (path : PathV) (file : FileVersion) → fin.get base path ≡ Some (node.File file) → IsPieceOf cuts file.bytes piece → InSync cuts c base had piece
  in_call : (key : Key) → Contains had (key, piece) → InSync cuts c base had piece

-- no two of these share an SHA-1, and none has forty zeros. Said of all lists it would be false
pub record IsClear (here : List ℕ → Type 0) : Type 0 where
  pub same : (x y : List ℕ) → here x → here y → sha1 x ≡ sha1 y → x ≡ y
  pub not_nil : (x : List ℕ) → here x → sha1 x ≢ nil

-- ---- all of it

pub record Over (objects : Objects) (cuts : Cuts) (c : Contents) (index : Index) (base : Tree) (had : List (Key × List ℕ)) : Type 0 where
  pub has_all : HasAll objects had
  pub base_is : IsBase objects index.base base
  pub stands : Stands cuts index base
  pub knows : KnowsBase objects index.base index
  pub names : NamesFiles objects index base
  pub clear : IsClear (InSync cuts c base had)
