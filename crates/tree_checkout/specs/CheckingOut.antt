-- What a checkout leaves, done or stopped, and what it sent. Our own. Read checkout_steps and ChecksOut, then StopsOut; AreFor ties a
-- checkout to a plan, and AreOf to the root of a tree. Read before: Steps, Planning.
use Rattle.std.specs.Prelude.{ℕ, ℤ, ◌≡◌, ◌≢◌, ◌⊎◌, List, [], ◌∷◌, ◌++◌, length, map, Option, Some, IsSome, Ok, ⊤}
use Rattle.std.specs.List.{AllByRecursion, Contains}
use Rattle.ids.specs.Key.{Objects}
use Rattle.ids.specs.ObjectId.{nil}
use Rattle.fs_objects.specs.declared.fs_object.FsObject.TheVariants as fs
use Rattle.tree_model.specs.Path.{PathV}
use Rattle.block_chunker.specs.declared.cuts.Cuts.{Cuts}
use Rattle.folder_side.specs.Folder.{Contents}
use Rattle.folder_side.specs.declared.scan_report.Scan.{Scan}
use Rattle.object_graph.specs.Objects.{blocks_at, entry_below, fs_at, joined}
use Rattle.object_graph.specs.declared.entry.Entry.TheVariants as entry
use Rattle.remote_calls.specs.Sends.{Sent}
use Rattle.sync_rules.specs.Checkout.{Step, run}
use Rattle.sync_rules.specs.Named.{HasAll}
use Rattle.sync_rules.specs.declared.fault.SyncFault.{SyncFault}
use Rattle.tree_checkout.specs.BlockGets.{AreGot, Stops, had_of}
use Rattle.tree_checkout.specs.Steps.{AreSized, IsStopAt, IsWrongIn, LeavesOthers, blocks_due, owns_of, paths_of, write_step}
use Rattle.tree_checkout.specs.declared.block_gets.Source.{Source}
use Rattle.tree_checkout.specs.declared.planning.Due.{Due}
use Rattle.tree_checkout.specs.declared.planning.DueNode.{DueNode}
use Rattle.tree_checkout.specs.declared.planning.DueNode.TheVariants as due
use Rattle.tree_checkout.specs.declared.steps.Write.{Write}
use Rattle.tree_checkout.specs.declared.steps.WriteNode.{WriteNode}
use Rattle.tree_checkout.specs.declared.steps.WriteNode.TheVariants as write
use Rattle.tree_checkout.specs.declared.writing.TreeFile.{TreeFile}

-- removals, and then what is written, with the bytes that blocks have among these objects
abbrev pub checkout_steps : Objects → List PathV → List Write → List Step
checkout_steps objects doomed writes = map Step.Removed doomed ++ map (write_step objects) writes

-- all steps were done, over any objects that have what came, each file has the size that its object tells, and its own id is told; and
-- just the blocks of what is written were got, in their order. Whatever came, all other paths hold what they held
pub record ChecksOut (source : Source) (doomed : List PathV) (writes : List Write) (cuts : Cuts) (old new : List Sent) (before after : Option Contents)
    (owns : List (List ℕ)) : Type 0 where
  pub more : List Sent
  pub grown : new ≡ old ++ more
  pub got : AreGot source (blocks_due writes) more
  pub left : (c : Contents) → before ≡ Some c → (objects : Objects) → HasAll objects (had_of more) → after ≡ Some (run (checkout_steps objects doomed writes) c)
  pub sized : (objects : Objects) → HasAll objects (had_of more) → AreSized objects writes
  pub tells : (c : Contents) → before ≡ Some c → IsSome after
  pub others : LeavesOthers (doomed ++ paths_of writes) before after
  pub owned : (objects : Objects) → HasAll objects (had_of more) → owns ≡ owns_of cuts objects writes

-- a front of the steps was done, and nothing written before all was removed that is to go; a front of those blocks was got. Where a change
-- is told, it is one at the path of the next step
pub record StopsOut (source : Source) (doomed : List PathV) (writes : List Write) (scan : Scan) (cuts : Cuts) (old new : List Sent) (before after : Option Contents)
    (f : SyncFault) : Type 0 where
  pub more : List Sent
  pub grown : new ≡ old ++ more
  pub stops : Stops source more (blocks_due writes) f
  pub wrong : IsWrongIn source writes more f
  pub gone : List PathV
  pub kept : List PathV
  pub removed : doomed ≡ gone ++ kept
  pub done : List Write
  pub rest : List Write
  pub written : writes ≡ done ++ rest
  pub order : (kept ≡ []) ⊎ (done ≡ [])
  pub left : (c : Contents) → before ≡ Some c → (objects : Objects) → HasAll objects (had_of more) → after ≡ Some (run (checkout_steps objects gone done) c)
  pub sized : (objects : Objects) → HasAll objects (had_of more) → AreSized objects done
  pub tells : (c : Contents) → before ≡ Some c → IsSome after
  pub others : LeavesOthers (gone ++ paths_of done) before after
  pub changed : IsStopAt cuts scan kept rest after f

-- ---- beside a plan and a root

-- what is written for what is due, where the object of a file names these blocks
abbrev pub IsForNode : Objects → DueNode → WriteNode → Type 0
IsForNode objects due.Dir write.Dir = ⊤
IsForNode objects (due.File id) (write.File file) = (file.id ≡ id) × (blocks_at objects id ≡ file.object.blocks)
IsForNode objects _ _ = ⊥

abbrev pub AreFor : Objects → List Due → List Write → Type 0
AreFor objects [] [] = ⊤
AreFor objects (d ∷ dues) (w ∷ writes) = (w.path ≡ d.path) × IsForNode objects d.node w.node × AreFor objects dues writes
AreFor objects _ _ = ⊥

-- the root has this file at the path
pub record IsFileOf (objects : Objects) (root : List ℕ) (path : PathV) (file : TreeFile) : Type 0 where
  pub mode : ℕ
  pub mtime : ℤ
  pub modifier : List ℕ
  pub size : ℕ
  pub there : entry_below objects path root ≡ Some (entry.File file.id mode mtime modifier size)
  pub blocks : blocks_at objects file.id ≡ file.object.blocks

abbrev pub IsNodeOf : Objects → (root : List ℕ) → PathV → WriteNode → Type 0
IsNodeOf objects root path write.Dir = ⊤
IsNodeOf objects root path (write.File file) = IsFileOf objects root path file

-- each file that is written is one of the root's
abbrev pub AreOf : Objects → (root : List ℕ) → List Write → Type 0
AreOf objects root writes = AllByRecursion (λ w. IsNodeOf objects root w.path w.node) writes

-- a file that is written has another size than its object tells
pub record IsMisSized (objects : Objects) (writes : List Write) (id : List ℕ) : Type 0 where
  pub path : PathV
  pub file : TreeFile
  pub there : Contains writes (record { path = path; node = write.File file })
  pub named : id ≡ file.id
  pub wrong : file.object.size ≢ length (joined objects file.object.blocks)

-- each file that is written, but an empty one, has the object that says so
abbrev pub IsObjectOf : Objects → WriteNode → Type 0
IsObjectOf objects write.Dir = ⊤
IsObjectOf objects (write.File file) = file.id ≢ nil → fs_at objects file.id ≡ Ok (fs.File file.object)

abbrev pub AreObjects : Objects → List Write → Type 0
AreObjects objects writes = AllByRecursion (λ w. IsObjectOf objects w.node) writes
