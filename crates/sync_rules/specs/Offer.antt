-- What a sync offers of a folder: its visible tree, and the commit that is made of it. Our own. Read offered_at first, then Agrees
-- and IsOffer.
use Rattle.std.specs.Prelude.{ℕ, ◌≡◌, ◌≢◌, ◌↔◌, ◌-◌, ◌^◌, false, min, if◌then◌else◌, List, [], length, Option, None, Some, Ok, option_and_then, codes, pos, ⊤}
use Rattle.std.specs.FinMap as fin
use Rattle.std.specs.Option.{option_or}
use Rattle.std.specs.Str.{bytes_eq}
use Rattle.ids.specs.Key.{Objects}
use Rattle.ids.specs.ObjectId.{nil}
use Rattle.tree_model.specs.Path.{PathV}
use Rattle.tree_model.specs.declared.node.FileVersion.{FileVersion}
use Rattle.tree_model.specs.declared.node.Node.{Node}
use Rattle.tree_model.specs.declared.node.Node.TheVariants as node
use Rattle.block_chunker.specs.declared.cuts.Cuts.{Cuts}
use Rattle.commit_objects.specs.declared.commit.Commit.{Commit}
use Rattle.object_graph.specs.Objects.{commit_at, entry_below, node_below}
use Rattle.object_graph.specs.declared.entry.Entry.{Entry}
use Rattle.object_graph.specs.declared.entry.Entry.TheVariants as entry
use Rattle.folder_side.specs.Folder.{Contents, at}
use Rattle.folder_side.specs.ScanReport.{block_names, seen_of}
use Rattle.folder_side.specs.WorkingTree.{held_at}
use Rattle.folder_side.specs.declared.holding.Holding.{Holding}
use Rattle.folder_side.specs.declared.holding.Holding.TheVariants.{Dir, File, Other}
use Rattle.local_index.specs.OwnIds.{own_id}
use Rattle.local_index.specs.ScanChanges.{change_of}
use Rattle.local_index.specs.declared.index.Index.{Index}
use Rattle.local_index.specs.declared.index.Known.{Known}
use Rattle.local_index.specs.declared.index.Known.TheVariants as known

-- ---- chunks

-- the parameters of this project's own files: chunks of 256 KiB to 4 MiB
pub record IsUsual (cuts : Cuts) : Type 0 where
  pub least : cuts.min ≡ 262144
  pub greatest : cuts.max ≡ 4194304
  pub shift : cuts.shift ≡ 44

-- ---- what is offered

-- the id that this project's chunks give some bytes
abbrev pub own_of : Cuts → List ℕ → List ℕ
own_of cuts bytes = own_id (block_names cuts bytes) (length bytes)

-- the mode of a file that is new or changed
abbrev pub usual_mode : ℕ
usual_mode = 33188

abbrev pub mode_of : Option Known → ℕ
mode_of None = usual_mode
mode_of (Some known.Dir) = usual_mode
mode_of (Some (known.File id own size mode mtime modifier)) = mode

-- a file as the folder holds it, changed at this moment by this user
abbrev pub changed_file : ℕ → List ℕ → Option Known → List ℕ → FileVersion
changed_file moment user was bytes = record { mode = mode_of was; mtime = pos (min moment (2 ^ 63 - 1)); modifier = user; bytes = bytes }

-- a file whose own id is the index's is as the index tells; every other is changed
abbrev pub offered_file : Cuts → ℕ → List ℕ → Option Known → List ℕ → FileVersion
offered_file cuts moment user (Some (known.File id own size mode mtime modifier)) bytes =
    if bytes_eq (own_of cuts bytes) own then record { mode = mode; mtime = mtime; modifier = modifier; bytes = bytes }
    else changed_file moment user (Some (known.File id own size mode mtime modifier)) bytes
offered_file cuts moment user was bytes = changed_file moment user was bytes

abbrev pub offered_of : Cuts → ℕ → List ℕ → Option Known → Holding → Option Node
offered_of cuts moment user was Dir = Some node.Dir
offered_of cuts moment user was (File bytes) = Some (node.File (offered_file cuts moment user was bytes))
offered_of cuts moment user was Other = None

-- what a folder offers at a path
abbrev pub offered_at : Cuts → Contents → Index → ℕ → List ℕ → PathV → Option Node
offered_at cuts c index moment user path = option_and_then (offered_of cuts moment user (fin.get index.entries path)) (at c path)

-- its entry in the commit that is made. A file whose own id is the index's keeps the id and the size that the index tells, so its
-- blocks need not be there; every other has its own id and its length
abbrev pub changed_entry : Cuts → ℕ → List ℕ → Option Known → List ℕ → Entry
changed_entry cuts moment user was bytes = entry.File (own_of cuts bytes) (mode_of was) (pos (min moment (2 ^ 63 - 1))) user (length bytes)

abbrev pub entry_of_file : Cuts → ℕ → List ℕ → Option Known → List ℕ → Entry
entry_of_file cuts moment user (Some (known.File id own size mode mtime modifier)) bytes =
    if bytes_eq (own_of cuts bytes) own then entry.File id mode mtime modifier size
    else changed_entry cuts moment user (Some (known.File id own size mode mtime modifier)) bytes
entry_of_file cuts moment user was bytes = changed_entry cuts moment user was bytes

abbrev pub entry_of_holding : Cuts → ℕ → List ℕ → Option Known → Holding → Option Entry
entry_of_holding cuts moment user was Dir = Some entry.Dir
entry_of_holding cuts moment user was (File bytes) = Some (entry_of_file cuts moment user was bytes)
entry_of_holding cuts moment user was Other = None

abbrev pub offered_entry_at : Cuts → Contents → Index → ℕ → List ℕ → PathV → Option Entry
offered_entry_at cuts c index moment user path = option_and_then (entry_of_holding cuts moment user (fin.get index.entries path)) (at c path)

-- ---- whether it is offered at all

-- a folder agrees with an index: nothing changed since
abbrev pub Agrees : Cuts → Contents → Index → Type 0
Agrees cuts c index = (path : PathV) → change_of (option_and_then (seen_of cuts) (at c path)) (fin.get index.entries path) ≡ None

abbrev pub offer_words : List ℕ
offer_words = codes "Sync"

-- the commit that is pushed: of this tree, on this parent, by this user at this moment
pub record IsOffer (objects : Objects) (cuts : Cuts) (c : Contents) (index : Index) (moment : ℕ) (user : List ℕ) (parent : Option (List ℕ)) (id : List ℕ) : Type 0 where
  pub commit : Commit
  pub stored : commit_at objects id ≡ Ok commit
  pub lib : commit.lib ≡ index.lib
  pub parent_is : commit.parent ≡ parent
  pub no_second : commit.second_parent ≡ None
  pub by : commit.creator_name ≡ user
  pub words : commit.description ≡ offer_words
  pub made_at : commit.ctime ≡ moment
  pub conflict : commit.conflict ≡ false
  pub tree : (path : PathV) → path ≢ [] → node_below objects path commit.root ≡ offered_at cuts c index moment user path
  -- a library is seen to have nothing by such a root, so a folder that shows nothing is offered by it
  pub empty : (commit.root ≡ nil) ↔ ((path : PathV) → held_at c path ≡ None)
  -- the ids and sizes with which it stands there
  pub entries : (path : PathV) → path ≢ [] → entry_below objects path commit.root ≡ offered_entry_at cuts c index moment user path

-- something was pushed only where the folder differs from the index, on the index's base, or on the head that was asked where there was
-- none. Where nothing was, `GoesUnpushed` tells of the folder
abbrev pub IsOfferOf : Objects → Cuts → Contents → Index → ℕ → List ℕ → Option (List ℕ) → Option (List ℕ) → Type 0
IsOfferOf objects cuts c index moment user asked None = ⊤
IsOfferOf objects cuts c index moment user asked (Some pushed) =
    (Agrees cuts c index → ⊥) × IsOffer objects cuts c index moment user (option_or index.base asked) pushed
