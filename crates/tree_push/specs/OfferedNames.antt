-- Among which objects a root has the tree that a folder offers: those in which the directories have the entries that are offered, and each
-- file that is new or changed has its object and its blocks. Our own. Read HasOffered, then HasOwn and HasChanged.
use Rattle.std.specs.Prelude.{◌≡◌, ◌≢◌, ◌==◌, ℕ, false, All, List, length, Some, Ok, option_and_then, option_map}
use Rattle.std.specs.FinMap as fin
use Rattle.std.specs.List.{Contains}
use Rattle.sha1.specs.Sha1.{sha1}
use Rattle.ids.specs.Key.{Objects}
use Rattle.ids.specs.ObjectId.{nil}
use Rattle.ids.specs.declared.key.Key.{Key}
use Rattle.tree_model.specs.Path.{PathV}
use Rattle.tree_model.specs.Tree.{Tree}
use Rattle.block_chunker.specs.ChunkBoundaries.{chunks_of}
use Rattle.block_chunker.specs.declared.cuts.Cuts.{Cuts}
use Rattle.fs_objects.specs.FsObject.{fs_of}
use Rattle.fs_objects.specs.Spelling.{text_of}
use Rattle.fs_objects.specs.declared.file_object.FileObject.{FileObject}
use Rattle.fs_objects.specs.declared.fs_object.FsObject.TheVariants as fs
use Rattle.object_graph.specs.Objects.{block_key, entry_below, fs_key}
use Rattle.folder_side.specs.Folder.{Contents, at}
use Rattle.folder_side.specs.ScanReport.{block_names, seen_of}
use Rattle.folder_side.specs.declared.holding.Holding.TheVariants.{File}
use Rattle.local_index.specs.declared.index.Index.{Index}
use Rattle.sync_rules.specs.Offer.{own_of}
use Rattle.sync_rules.specs.Premises.{InSync}
use Rattle.tree_push.specs.OfferedEntries.{is_kept, offered_entry}

-- the entries below a root are those that are offered of what the folder has
abbrev pub HasOffered : Objects → Cuts → Contents → Index → (moment : ℕ) → (user root : List ℕ) → Type 0
HasOffered objects cuts c index moment user root =
    (path : PathV) → entry_below objects path root ≡ option_map (offered_entry moment user (fin.get index.entries path)) (option_and_then (seen_of cuts) (at c path))

abbrev pub object_of : Cuts → List ℕ → FileObject
object_of cuts bytes = record { blocks = block_names cuts bytes; size = length bytes }

-- among these objects something with the name of these bytes is stored, that is clear of all else here
pub record IsThere (objects : Objects) (here : List ℕ → Type 0) (key : Key) (bytes : List ℕ) : Type 0 where
  pub stored : List ℕ
  pub there : fin.get objects key ≡ Some stored
  pub clear : here stored
  pub named : sha1 stored ≡ sha1 bytes

-- the blocks of a file are there, and its object, if it has one
pub record HasOwn (objects : Objects) (here : List ℕ → Type 0) (cuts : Cuts) (bytes : List ℕ) : Type 0 where
  pub blocks : (x : List ℕ) → Contains (chunks_of cuts bytes) x → IsThere objects here (block_key (sha1 x)) x
  pub object : (length bytes == 0) ≡ false → IsThere objects here (fs_key (sha1 (text_of (fs.File (object_of cuts bytes))))) (text_of (fs.File (object_of cuts bytes)))
  pub reads : (length bytes == 0) ≡ false → All (λ id. id ≢ nil) (block_names cuts bytes) → fs_of (text_of (fs.File (object_of cuts bytes))) ≡ Ok (fs.File (object_of cuts bytes))

-- each file that isn't kept as it is known has them
abbrev pub HasChanged : Objects → Cuts → Contents → Index → Tree → List (Key × List ℕ) → Type 0
HasChanged objects cuts c index base had = (path : PathV) (bytes : List ℕ) → at c path ≡ Some (File bytes) → is_kept (fin.get index.entries path) (own_of cuts bytes) ≡ false
    → HasOwn objects (InSync cuts c base had) cuts bytes
