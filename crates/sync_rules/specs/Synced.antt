-- What one sync leaves: done, or stopped. Our own. Read IsSynced first, then IsStopped. Behind it: Causes, Uploads and OneSync.
use Rattle.std.specs.Prelude.{ℕ, ◌≡◌, ◌≢◌, ◌⊎◌, ℤ, Bool, true, false, All, List, [], length, Option, None, Some, is_some, Ok, if◌then◌else◌}
use Rattle.std.specs.FinMap as fin
use Rattle.std.specs.List.{Contains, filter_map}
use Rattle.ids.specs.Key.{Objects}
use Rattle.ids.specs.ObjectId.{nil}
use Rattle.ids.specs.declared.key.Key.{Key}
use Rattle.tree_model.specs.Path.{PathV}
use Rattle.tree_model.specs.Tree.{Tree}
use Rattle.block_chunker.specs.declared.cuts.Cuts.{Cuts}
use Rattle.commit_objects.specs.declared.commit.Commit.{Commit}
use Rattle.fs_objects.specs.declared.file_object.FileObject.{FileObject}
use Rattle.fs_objects.specs.declared.fs_object.FsObject.TheVariants as fs
use Rattle.object_graph.specs.Objects.{IsTreeOf, blocks_at, commit_at, entry_below, fs_at}
use Rattle.object_graph.specs.Traversal.{start, walk_root}
use Rattle.object_graph.specs.declared.entry.Entry.{Entry}
use Rattle.object_graph.specs.declared.entry.Entry.TheVariants as entry
use Rattle.tree_walk.specs.declared.fault.WalkFault.TheVariants as walk
use Rattle.folder_side.specs.Folder.{Contents, at}
use Rattle.folder_side.specs.ScanReport.{skipped_path}
use Rattle.folder_side.specs.WorkingTree.{HoldsLeft, held_list}
use Rattle.folder_side.specs.declared.holding.Holding.TheVariants as holding
use Rattle.local_index.specs.declared.index.Index.{Index}
use Rattle.remote_calls.specs.Sends.{Sent}
use Rattle.sync_rules.specs.Checkout.{Front, IsPlan, MayHold, Step, first_blocked, is_alone, run}
use Rattle.sync_rules.specs.Named.{EndsAtUpdate, asked_head, is_block, keys_asked, last_head}
use Rattle.sync_rules.specs.Offer.{IsOfferOf}
use Rattle.sync_rules.specs.Premises.{KnowsRoot, KnowsSizes, NamesFiles, Stands}
use Rattle.sync_rules.specs.declared.fault.SyncFault.{SyncFault}
use Rattle.sync_rules.specs.declared.fault.SyncFault.TheVariants as fault
use Rattle.sync_rules.specs.declared.synced.Synced.{Synced}

-- ---- success

-- whether a merge that made a head had a conflict: it is another commit than the one that was pushed, and says so
abbrev pub IsConflict : Option (List ℕ) → List ℕ → Commit → Bool → Type 0
IsConflict None head commit told = told ≡ false
IsConflict (Some pushed) head commit told = ((told ≡ true) × (head ≢ pushed) × (commit.conflict ≡ true)) ⊎ ((told ≡ false) × ((head ≡ pushed) ⊎ (commit.conflict ≡ false)))

abbrev pub removed_by : Step → Bool
removed_by (Step.Removed path) = true
removed_by _ = false

abbrev pub written_by : Step → Bool
written_by (Step.Wrote path bytes) = true
written_by _ = false

abbrev pub count_of : (Step → Bool) → List Step → ℕ
count_of test steps = length (filter_map (λ step. if test step then Some step else None) steps)

-- what is written has as many bytes as its file object tells
abbrev pub IsSized : Objects → (root : List ℕ) → PathV → (bytes : List ℕ) → Type 0
IsSized objects root path bytes = (id modifier : List ℕ) (mode size : ℕ) (mtime : ℤ) (file : FileObject)
    → entry_below objects path root ≡ Some (entry.File id mode mtime modifier size) → id ≢ nil → fs_at objects id ≡ Ok (fs.File file) → file.size ≡ length bytes

-- this block is one of the file that a root has at a path
abbrev pub HasBlock : Objects → (block : List ℕ) → Option Entry → Type 0
HasBlock objects block (Some (entry.File id mode mtime modifier size)) = Contains (blocks_at objects id) block
HasBlock objects block _ = ⊥

-- the blocks that were asked for are those of files that the steps write: a file that is left alone is not got
abbrev pub IsOfWritten : Objects → (root : List ℕ) → List Step → Key → Type 0
IsOfWritten objects root steps key = is_block key.kind ≡ true
    → (path : PathV) × (bytes : List ℕ) × Contains steps (Step.Wrote path bytes) × HasBlock objects key.id (entry_below objects path root)

abbrev pub AsksWritten : Objects → (root : List ℕ) → List Step → List Sent → Type 0
AsksWritten objects root steps more = All (IsOfWritten objects root steps) (keys_asked more)

-- an index whose entries are as they were, or that tells the sizes of a root's entries
abbrev pub HasSizes : Objects → (root : List ℕ) → (old new : Index) → Type 0
HasSizes objects root i j = ((path : PathV) → fin.get j.entries path ≡ fin.get i.entries path) ⊎ KnowsSizes objects root j

-- a folder that held `c` holds the head's tree `t`, but for what it can't carry, and the index stands for it with that head as base.
-- Nothing was done to it but the steps of a plan, and no path of the tree was blocked, so what is neither a file nor a directory is as
-- it was
pub record IsSynced (objects : Objects) (cuts : Cuts) (c d : Contents) (i j : Index) (t : Tree) (moment : ℕ) (user : List ℕ) (more : List Sent) (s : Synced) : Type 0 where
  pub named : last_head more None ≡ Some (s.head, s.pushed)
  pub pushed : IsOfferOf objects cuts c i moment user (asked_head more None) s.pushed
  pub commit : Commit
  pub stored : commit_at objects s.head ≡ Ok commit
  pub is_tree : IsTreeOf objects commit.root t
  pub left : HoldsLeft t c d
  pub stands : Stands cuts j t
  pub names : NamesFiles objects j t
  pub knows : KnowsRoot objects commit.root j
  pub sizes : HasSizes objects commit.root i j
  pub base : j.base ≡ Some s.head
  pub lib : j.lib ≡ i.lib
  pub conflict : IsConflict s.pushed s.head commit s.conflict
  pub steps : List Step
  pub is_plan : IsPlan t c (λ path. is_alone cuts (at c path) (fin.get i.entries path) (entry_below objects path commit.root) (is_some s.pushed)) steps
  pub done : d ≡ run steps c
  -- nothing is got where nothing was pushed and the head is the base, nor of a head that is the pushed commit itself; else the whole tree
  -- was, nothing is wrong in it and no path blocked
  pub spared : s.pushed ≡ None → i.base ≡ Some s.head → keys_asked more ≡ []
  pub unfetched : s.pushed ≡ Some s.head → EndsAtUpdate more s.head
  pub asked : AsksWritten objects commit.root steps more
  pub whole : ((s.pushed ≡ None) × (i.base ≡ Some s.head))
      ⊎ ((((walk_root false objects commit.root start).fault ≡ None) × (first_blocked c (fin.entries t) ≡ None)) ⊎ (s.pushed ≡ Some s.head))
  pub sized : (path : PathV) (bytes : List ℕ) → Contains steps (Step.Wrote path bytes) → IsSized objects commit.root path bytes
  pub removed : s.removed ≡ count_of removed_by steps
  pub written : s.written ≡ count_of written_by steps
  pub skipped : s.skipped ≡ filter_map skipped_path (fin.entries c.paths)
  pub held : s.held ≡ held_list t c

-- ---- refusals

-- a refusal that comes before the folder is touched
abbrev pub is_early : SyncFault → Bool
is_early fault.NotEmpty = true
is_early (fault.Blocked path) = true
is_early (fault.Scan why) = true
is_early (fault.Stale count) = true
is_early (fault.BadTree (walk.WrongSize id)) = false
is_early (fault.BadTree why) = true
is_early _ = false

-- the head that the last reply named has this tree
pub record IsHeadTree (objects : Objects) (more : List Sent) (tree : Tree) : Type 0 where
  pub head : List ℕ
  pub pushed : Option (List ℕ)
  pub named : last_head more None ≡ Some (head, pushed)
  pub commit : Commit
  pub stored : commit_at objects head ≡ Ok commit
  pub is_tree : IsTreeOf objects commit.root tree

-- what was pushed before is what the folder offered, and the whole tree of the head was got, in which nothing is wrong and no path
-- blocked. Since then a front of a plan was done: each path holds its old contents, those of the tree, or nothing, where the tree has
-- nothing or another kind. What was written has the size that its file object tells
pub record IsStopped (objects : Objects) (cuts : Cuts) (c d : Contents) (i : Index) (user : List ℕ) (more : List Sent) (shows : ℕ → Type 0) : Type 0 where
  pub tree : Tree
  pub heads : IsHeadTree objects more tree
  pub moment : ℕ
  pub shown : shows moment
  pub offered : IsOfferOf objects cuts c i moment user (asked_head more None) heads.pushed
  pub whole : (walk_root false objects heads.commit.root start).fault ≡ None
  pub free : first_blocked c (fin.entries tree) ≡ None
  pub steps : List Step
  pub is_plan : IsPlan tree c (λ path. is_alone cuts (at c path) (fin.get i.entries path) (entry_below objects path heads.commit.root) (is_some heads.pushed)) steps
  pub went : Front steps c d
  pub asked : AsksWritten objects heads.commit.root steps more
  pub holds : (path : PathV) → MayHold tree c d path
  pub sized : (path : PathV) (bytes : List ℕ) → at d path ≡ Some (holding.File bytes) → at c path ≢ Some (holding.File bytes) → IsSized objects heads.commit.root path bytes
  pub nameless : d.nameless ≡ c.nameless
