-- The steps of a checkout, one after another. Our own. Read write_step and WritesAll, then StopsWrites. Read before: Writing, and
-- Checkout of `sync_rules`.
use Rattle.std.specs.Prelude.{ℕ, ◌≡◌, ◌⊎◌, Bool, true, false, List, [], ◌∷◌, ◌++◌, length, map, Option, None, Some, IsSome, option_map, ⊤}
use Rattle.std.specs.FinMap as fin
use Rattle.std.specs.List.{AllByRecursion, flat_map}
use Rattle.ids.specs.Key.{Objects}
use Rattle.tree_model.specs.Path.{PathV}
use Rattle.block_chunker.specs.declared.cuts.Cuts.{Cuts}
use Rattle.folder_side.specs.Folder.{Contents, at, with_dir}
use Rattle.folder_side.specs.declared.scan_report.Scan.{Scan}
use Rattle.folder_side.specs.declared.scan_report.Seen.{Seen}
use Rattle.object_graph.specs.Objects.{joined}
use Rattle.remote_calls.specs.Sends.{Sent}
use Rattle.sync_rules.specs.Checkout.{Step, is_one_of, run}
use Rattle.sync_rules.specs.Named.{HasAll}
use Rattle.sync_rules.specs.Offer.{own_of}
use Rattle.sync_rules.specs.declared.fault.SyncFault.{SyncFault}
use Rattle.sync_rules.specs.declared.fault.SyncFault.TheVariants as fault
use Rattle.tree_walk.specs.declared.fault.WalkFault.TheVariants as walk
use Rattle.tree_checkout.specs.BlockGets.{AreGot, GotFront, Stops, had_of}
use Rattle.tree_checkout.specs.SecondLook.{IsLookFault, LooksAs, LooksFirst, file_seen}
use Rattle.tree_checkout.specs.Writing.{IsMisfit, StopsWriting, Writes, is_change}
use Rattle.tree_checkout.specs.declared.block_gets.Source.{Source}
use Rattle.tree_checkout.specs.declared.writing.TreeFile.{TreeFile}
use Rattle.tree_checkout.specs.declared.steps.Write.{Write}
use Rattle.tree_checkout.specs.declared.steps.WriteNode.{WriteNode}
use Rattle.tree_checkout.specs.declared.steps.WriteNode.TheVariants as write

-- ---- faults at a path

-- the folder failed, memory was wanting, or something else stands there than was seen
abbrev pub is_path_fault : SyncFault → Bool
is_path_fault fault.Folder = true
is_path_fault fault.NoMemory = true
is_path_fault (fault.Changed path) = true
is_path_fault _ = false

-- ---- what is to be there first

-- where something is written: a file that was seen, for a file, and else nothing
abbrev pub node_first : Scan → PathV → WriteNode → Option Seen
node_first scan path write.Dir = None
node_first scan path (write.File file) = file_seen (fin.get scan.paths path)

abbrev pub LooksUnwritten : Cuts → Contents → Scan → Write → Type 0
LooksUnwritten cuts c scan w = LooksAs cuts (at c w.path) (node_first scan w.path w.node)

-- this is the path of the next step, a removal first, and there stands something else than was seen first
abbrev pub IsNextOther : Cuts → Scan → (kept : List PathV) → (rest : List Write) → Option Contents → PathV → Type 0
IsNextOther cuts scan [] [] told other = ⊥
IsNextOther cuts scan [] (w ∷ rest) told other = (other ≡ w.path) × ((c : Contents) → told ≡ Some c → LooksUnwritten cuts c scan w → ⊥)
IsNextOther cuts scan (path ∷ kept) rest told other = (other ≡ path) × ((c : Contents) → told ≡ Some c → LooksFirst cuts c scan path → ⊥)

-- a change is told of that alone
abbrev pub IsStopAt : Cuts → Scan → (kept : List PathV) → (rest : List Write) → Option Contents → SyncFault → Type 0
IsStopAt cuts scan kept rest told (fault.Changed other) = IsNextOther cuts scan kept rest told other
IsStopAt cuts scan kept rest told _ = ⊤

-- ---- removals

-- a folder that held `before` lacks these paths, removed one after another
pub record RemovesAll (doomed : List PathV) (before after : Option Contents) : Type 0 where
  pub left : (c : Contents) → before ≡ Some c → after ≡ Some (run (map Step.Removed doomed) c)

-- it lacks a front of them, and where a change is told it is one at the next path
pub record RemovesFront (doomed : List PathV) (scan : Scan) (cuts : Cuts) (before after : Option Contents) (f : SyncFault) : Type 0 where
  pub gone : List PathV
  pub rest : List PathV
  pub front : doomed ≡ gone ++ rest
  pub left : (c : Contents) → before ≡ Some c → after ≡ Some (run (map Step.Removed gone) c)
  pub changed : (writes : List Write) → IsStopAt cuts scan rest writes after f

-- ---- what is written at a path

-- the blocks of what is written
abbrev pub node_blocks : WriteNode → List (List ℕ)
node_blocks write.Dir = []
node_blocks (write.File file) = file.object.blocks

abbrev pub blocks_due : List Write → List (List ℕ)
blocks_due writes = flat_map (λ w. node_blocks w.node) writes

-- its step, where blocks have the bytes that they have among these objects
abbrev pub made_step : Objects → PathV → WriteNode → Step
made_step objects path write.Dir = Step.Made path
made_step objects path (write.File file) = Step.Wrote path (joined objects file.object.blocks)

abbrev pub write_step : Objects → Write → Step
write_step objects w = made_step objects w.path w.node

-- a file has as many bytes as its object tells
abbrev pub IsSizedNode : Objects → WriteNode → Type 0
IsSizedNode objects write.Dir = ⊤
IsSizedNode objects (write.File file) = file.object.size ≡ length (joined objects file.object.blocks)

abbrev pub AreSized : Objects → List Write → Type 0
AreSized objects writes = AllByRecursion (λ w. IsSizedNode objects w.node) writes

-- the own ids of the files that are written, in the order of the writes: those that this project's chunks give to their bytes
abbrev pub node_owns : Cuts → Objects → WriteNode → List (List ℕ)
node_owns cuts objects write.Dir = []
node_owns cuts objects (write.File file) = own_of cuts (joined objects file.object.blocks) ∷ []

abbrev pub owns_of : Cuts → Objects → List Write → List (List ℕ)
owns_of cuts objects writes = flat_map (λ w. node_owns cuts objects w.node) writes

abbrev pub WritesOne : Source → PathV → WriteNode → Cuts → (old new : List Sent) → (before after : Option Contents) → (had has : List (List ℕ)) → Type 0
WritesOne source path write.Dir cuts old new before after had has = (new ≡ old) × (after ≡ option_map (with_dir path) before) × (has ≡ had)
WritesOne source path (write.File file) cuts old new before after had has = Writes source file path cuts old new before after had has

abbrev pub StopsOne : Source → PathV → WriteNode → Scan → Cuts → (old new : List Sent) → (before after : Option Contents) → SyncFault → Type 0
StopsOne source path write.Dir scan cuts old new before after f =
    (new ≡ old) × IsLookFault cuts before path None f × (is_change f ≡ true → after ≡ before) × ((after ≡ before) ⊎ (after ≡ option_map (with_dir path) before))
StopsOne source path (write.File file) scan cuts old new before after f =
    StopsWriting source file path cuts (file_seen (fin.get scan.paths path)) old new before after f

-- ---- one after another

abbrev pub paths_of : List Write → List PathV
paths_of writes = map (λ w. w.path) writes

-- all paths but these hold what they held
abbrev pub LeavesOthers : (touched : List PathV) → Option Contents → Option Contents → Type 0
LeavesOthers touched before after = (c d : Contents) → before ≡ Some c → after ≡ Some d → (q : PathV) → is_one_of touched q ≡ false → at d q ≡ at c q

-- a folder that held `before` holds what these writes leave of it, over any objects that have what came; at all other paths there is
-- what was, whatever came
pub record Leaves (writes : List Write) (more : List Sent) (before after : Option Contents) : Type 0 where
  pub left : (c : Contents) → before ≡ Some c → (objects : Objects) → HasAll objects (had_of more) → after ≡ Some (run (map (write_step objects) writes) c)
  pub sized : (objects : Objects) → HasAll objects (had_of more) → AreSized objects writes
  pub tells : (c : Contents) → before ≡ Some c → IsSome after
  pub others : LeavesOthers (paths_of writes) before after

-- all blocks were got, in order, and all is written, and over any objects that have what came the own ids were noted
pub record WritesAll (source : Source) (writes : List Write) (cuts : Cuts) (old new : List Sent) (before after : Option Contents) (had has : List (List ℕ)) : Type 0 where
  pub more : List Sent
  pub grown : new ≡ old ++ more
  pub got : AreGot source (blocks_due writes) more
  pub leaves : Leaves writes more before after
  pub owned : (objects : Objects) → HasAll objects (had_of more) → has ≡ had ++ owns_of cuts objects writes

-- where the size of a file is told to be wrong, the blocks of all writes before it came, and then a front of its own, which are too many
-- bytes, or are all and too few
pub record IsWrongFile (source : Source) (writes : List Write) (more : List Sent) (id : List ℕ) : Type 0 where
  pub done : List Write
  pub path : PathV
  pub file : TreeFile
  pub rest : List Write
  pub there : writes ≡ done ++ record { path = path; node = write.File file } ∷ rest
  pub named : id ≡ file.id
  pub earlier : List Sent
  pub later : List Sent
  pub ends : more ≡ earlier ++ later
  pub before : AreGot source (blocks_due done) earlier
  pub came : GotFront source file.object.blocks later
  pub misfit : IsMisfit file.object.size file.object.blocks later

abbrev pub IsWrongIn : Source → List Write → List Sent → SyncFault → Type 0
IsWrongIn source writes more (fault.BadTree (walk.WrongSize id)) = IsWrongFile source writes more id
IsWrongIn source writes more _ = ⊤

-- a front of the blocks was got, and a front of the writes done
pub record StopsWrites (source : Source) (writes : List Write) (scan : Scan) (cuts : Cuts) (old new : List Sent) (before after : Option Contents) (f : SyncFault) : Type 0 where
  pub more : List Sent
  pub grown : new ≡ old ++ more
  pub stops : Stops source more (blocks_due writes) f
  pub wrong : IsWrongIn source writes more f
  pub done : List Write
  pub rest : List Write
  pub front : writes ≡ done ++ rest
  pub leaves : Leaves done more before after
  pub changed : IsStopAt cuts scan [] rest after f
