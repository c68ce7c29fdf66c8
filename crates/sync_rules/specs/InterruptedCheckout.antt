-- Whether a folder is as a checkout leaves it that was interrupted: each path holds what the index tells, what the head's tree has, or
-- nothing, where that has nothing or another kind. Our own. Read is_left, then IsLeftByCheckout, IsInterrupted and IsChangedByReader.
use Rattle.std.specs.Prelude.{ℕ, ◌≡◌, ◌≢◌, ◌⊎◌, ◌||◌, not, Bool, true, false, List, Option, None, Some, option_and_then, Ok, ⊤}
use Rattle.std.specs.FinMap as fin
use Rattle.std.specs.Str.{bytes_eq}
use Rattle.ids.specs.Key.{Objects}
use Rattle.tree_model.specs.Path.{PathV}
use Rattle.block_chunker.specs.declared.cuts.Cuts.{Cuts}
use Rattle.commit_objects.specs.declared.commit.Commit.{Commit}
use Rattle.object_graph.specs.Objects.{commit_at, contents_of, entry_below}
use Rattle.object_graph.specs.declared.entry.Entry.{Entry}
use Rattle.object_graph.specs.declared.entry.Entry.TheVariants as entry
use Rattle.folder_side.specs.Folder.{Contents, at}
use Rattle.folder_side.specs.ScanReport.{seen_of}
use Rattle.folder_side.specs.declared.scan_report.Seen.{Seen}
use Rattle.folder_side.specs.declared.scan_report.Seen.TheVariants as seen
use Rattle.local_index.specs.OwnIds.{own_id}
use Rattle.local_index.specs.ScanChanges.{differs}
use Rattle.local_index.specs.declared.index.Index.{Index}
use Rattle.local_index.specs.declared.index.Known.{Known}
use Rattle.local_index.specs.declared.index.Known.TheVariants as known
use Rattle.remote_calls.specs.Sends.{Sent}
use Rattle.sync_rules.specs.Named.{HasGot, last_head}
use Rattle.sync_rules.specs.Offer.{Agrees, own_of}

-- ---- at a path

-- what was seen is as the index tells
abbrev pub is_unchanged : Seen → Option Known → Bool
is_unchanged s None = false
is_unchanged s (Some was) = not (differs s was)

-- it is as the tree has it: a directory, or a file whose own id is the tree's
abbrev pub is_reached : Seen → Option Entry → Bool
is_reached seen.Dir (Some entry.Dir) = true
is_reached (seen.File blocks size) (Some (entry.File id mode mtime modifier its_size)) = bytes_eq (own_id blocks size) id
is_reached _ _ = false

-- a checkout removes what the index tells: the tree has nothing there, or another kind. A file is never gone before another comes in its
-- place
abbrev pub is_removed : Known → Option Entry → Bool
is_removed known.Dir (Some entry.Dir) = false
is_removed (known.File id own size mode mtime modifier) (Some (entry.File its_id its_mode its_mtime its_modifier its_size)) = false
is_removed _ _ = true

abbrev pub is_left : Option Seen → Option Known → Option Entry → Bool
is_left None None there = true
is_left None (Some was) there = is_removed was there
is_left (Some s) was there = is_unchanged s was || is_reached s there

-- ---- at each path

-- a checkout to the tree of this root leaves such a folder, done or not. A file of the tree that other chunks made than this project's is
-- none by its own id
abbrev pub IsLeftByCheckout : Objects → Cuts → Contents → Index → (root : List ℕ) → Type 0
IsLeftByCheckout objects cuts c index root =
    (path : PathV) → is_left (option_and_then (seen_of cuts) (at c path)) (fin.get index.entries path) (entry_below objects path root) ≡ true

-- each file of a tree has the own id of this project's chunks
abbrev pub HasOwnId : Objects → Cuts → Option Entry → Type 0
HasOwnId objects cuts (Some (entry.File id mode mtime modifier size)) = own_of cuts (contents_of objects id) ≡ id
HasOwnId objects cuts _ = ⊤

abbrev pub HasOwnIds : Objects → Cuts → (root : List ℕ) → Type 0
HasOwnIds objects cuts root = (path : PathV) → HasOwnId objects cuts (entry_below objects path root)

-- ---- of one who may only read

-- the library went on from the index's base, and the folder is as a checkout to this head leaves it, over any objects that have what was
-- got
pub record IsInterrupted (cuts : Cuts) (c : Contents) (index : Index) (more : List Sent) (head : List ℕ) : Type 0 where
  pub base : List ℕ
  pub based : index.base ≡ Some base
  pub apart : base ≢ head
  pub left : (objects : Objects) → HasGot objects more → (commit : Commit) × (commit_at objects head ≡ Ok commit) × IsLeftByCheckout objects cuts c index commit.root

-- the library did not, or the folder is not so
abbrev pub IsUnlike : Cuts → Contents → Index → List Sent → (head : List ℕ) → Type 0
IsUnlike cuts c index more head = (index.base ≡ Some head)
    ⊎ ((objects : Objects) → HasGot objects more → (commit : Commit) × (commit_at objects head ≡ Ok commit) × (IsLeftByCheckout objects cuts c index commit.root → ⊥))

-- the folder differs from its index, and not by a checkout that was interrupted: nothing was synced yet, or it is unlike one to the head
-- that was named last
abbrev pub IsChangedByReader : Cuts → Contents → Index → List Sent → Type 0
IsChangedByReader cuts c index more = (Agrees cuts c index → ⊥)
    × ((index.base ≡ None) ⊎ ((head : List ℕ) × (last_head more None ≡ Some (head, None)) × IsUnlike cuts c index more head))
