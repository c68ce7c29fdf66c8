-- A file that is got into the spare and moved to its path, by the sends for it. Our own. Read Writes first, then StopsWriting and
-- IsMisfit. Read before: BlockGets, SecondLook.
use Rattle.std.specs.Prelude.{ℕ, ◌≡◌, ◌==◌, ◌⊎◌, ◌&&◌, ◌+◌, ◌<◌, Bool, true, false, List, [], ◌∷◌, ◌++◌, length, map, Option, Some, ⊤}
use Rattle.std.specs.Option.{option_map}
use Rattle.sha1.specs.Sha1.{sha1}
use Rattle.block_chunker.specs.ChunkBoundaries.{last_chunk}
use Rattle.block_chunker.specs.ChunkerProgress.{Progress, after_piece, finished_by}
use Rattle.block_chunker.specs.declared.cuts.Cuts.{Cuts}
use Rattle.tree_model.specs.Path.{PathV}
use Rattle.folder_side.specs.Folder.{Contents, at, with_file}
use Rattle.folder_side.specs.declared.scan_report.Seen.{Seen}
use Rattle.remote_calls.specs.Sends.{Sent}
use Rattle.local_index.specs.OwnIds.{own_id}
use Rattle.sync_rules.specs.Offer.{own_of}
use Rattle.sync_rules.specs.declared.fault.SyncFault.{SyncFault}
use Rattle.sync_rules.specs.declared.fault.SyncFault.TheVariants as fault
use Rattle.tree_walk.specs.declared.fault.WalkFault.TheVariants as walk
use Rattle.tree_checkout.specs.BlockGets.{AreGot, IsGot, Stops, bytes_in, joined_in}
use Rattle.tree_checkout.specs.SecondLook.{LooksAs}
use Rattle.tree_checkout.specs.declared.block_gets.Source.{Source}
use Rattle.tree_checkout.specs.declared.writing.TreeFile.{TreeFile}

-- whether a fault tells a change
abbrev pub is_change : SyncFault → Bool
is_change (fault.Changed path) = true
is_change _ = false

-- ---- the size of a file

-- the blocks that were got have too many bytes, or all were got and have too few
abbrev pub IsMisfit : (size : ℕ) → (blocks : List (List ℕ)) → List Sent → Type 0
IsMisfit size blocks more = (size < length (joined_in more)) ⊎ ((length more ≡ length blocks) × (length (joined_in more) < size))

-- where the size of a file is told to be wrong, it is this file's, and its size is wrong
abbrev pub IsWrongSize : TreeFile → List Sent → SyncFault → Type 0
IsWrongSize file more (fault.BadTree (walk.WrongSize id)) = (id ≡ file.id) × IsMisfit file.object.size file.object.blocks more
IsWrongSize file more _ = ⊤

-- ---- the spare

-- a block was got by one send, and stands behind what the spare held; `rest` of the bytes that were due are left. The chunker took its
-- bytes, and the chunks that end in them were named
pub record AddsOne (source : Source) (block : List ℕ) (left : ℕ) (old new : List Sent) (held holds : Option (List ℕ)) (before after : Progress) (names all : List (List ℕ))
    (rest : ℕ) : Type 0 where
  pub sent : Sent
  pub grown : new ≡ old ++ sent ∷ []
  pub got : IsGot source block sent
  pub counted : left ≡ rest + length (bytes_in sent.1)
  pub added : holds ≡ option_map (λ first. first ++ bytes_in sent.1) held
  pub fed : after ≡ after_piece before (bytes_in sent.1)
  pub named : all ≡ names ++ map sha1 (finished_by before (bytes_in sent.1))

-- where a file's size is told to be wrong, the block had more bytes than were due
abbrev pub IsTooLong : (file : List ℕ) → (left : ℕ) → List Sent → SyncFault → Type 0
IsTooLong file left more (fault.BadTree (walk.WrongSize id)) = (id ≡ file) × (left < length (joined_in more))
IsTooLong file left more _ = ⊤

pub record FailsToAdd (source : Source) (file block : List ℕ) (left : ℕ) (old new : List Sent) (f : SyncFault) : Type 0 where
  pub more : List Sent
  pub grown : new ≡ old ++ more
  pub stops : Stops source more (block ∷ []) f
  pub wrong : IsTooLong file left more f
  pub no_change : is_change f ≡ false

-- where no chunk ended in a file of one block, its own id is made of that block, for private clauses
abbrev pub IsOneChunk : (names blocks : List (List ℕ)) → (size : ℕ) → (begun : List ℕ) → Type 0
IsOneChunk names blocks size begun = ((length names == 0) && (length blocks == 1)) ≡ true → own_id blocks size ≡ own_id (names ++ map sha1 (last_chunk begun)) size

-- the blocks of a file were got, they have its size, and where the folder tells what it holds the spare holds just their bytes. The own id
-- of those bytes was noted
pub record Fills (source : Source) (file : TreeFile) (cuts : Cuts) (old new : List Sent) (told : Option Contents) (holds : Option (List ℕ)) (had has : List (List ℕ)) : Type 0 where
  pub more : List Sent
  pub grown : new ≡ old ++ more
  pub got : AreGot source file.object.blocks more
  pub sized : file.object.size ≡ length (joined_in more)
  pub filled : (c : Contents) → told ≡ Some c → holds ≡ Some (joined_in more)
  pub owned : has ≡ had ++ own_of cuts (joined_in more) ∷ []

-- a front of them was got
pub record StopsFilling (source : Source) (file : TreeFile) (old new : List Sent) (f : SyncFault) : Type 0 where
  pub more : List Sent
  pub grown : new ≡ old ++ more
  pub stops : Stops source more file.object.blocks f
  pub wrong : IsWrongSize file more f
  pub no_change : is_change f ≡ false

-- ---- the file

-- the blocks of a file were got, they have its size, their bytes stand at its path, and the own id of those bytes was noted
pub record Writes (source : Source) (file : TreeFile) (path : PathV) (cuts : Cuts) (old new : List Sent) (before after : Option Contents) (had has : List (List ℕ)) : Type 0 where
  pub more : List Sent
  pub grown : new ≡ old ++ more
  pub got : AreGot source file.object.blocks more
  pub sized : file.object.size ≡ length (joined_in more)
  pub written : after ≡ option_map (with_file path (joined_in more)) before
  pub owned : has ≡ had ++ own_of cuts (joined_in more) ∷ []

-- the file is at its path all the same: the folder's last call failed, and had moved it
pub record IsMoved (source : Source) (file : TreeFile) (path : PathV) (more : List Sent) (before after : Option Contents) : Type 0 where
  pub got : AreGot source file.object.blocks more
  pub sized : file.object.size ≡ length (joined_in more)
  pub written : after ≡ option_map (with_file path (joined_in more)) before

-- where a change is told, it is one at this path, and there stands something else than was seen first
abbrev pub IsOther : Cuts → Option Contents → PathV → Option Seen → SyncFault → Type 0
IsOther cuts told path first (fault.Changed changed) = (changed ≡ path) × ((c : Contents) → told ≡ Some c → LooksAs cuts (at c path) first → ⊥)
IsOther cuts told path first _ = ⊤

-- a front of the blocks was got, and the folder is as it was, or the file is at its path
pub record StopsWriting (source : Source) (file : TreeFile) (path : PathV) (cuts : Cuts) (first : Option Seen) (old new : List Sent)
    (before after : Option Contents) (f : SyncFault) : Type 0 where
  pub more : List Sent
  pub grown : new ≡ old ++ more
  pub stops : Stops source more file.object.blocks f
  pub wrong : IsWrongSize file more f
  pub other : IsOther cuts before path first f
  pub untouched : is_change f ≡ true → after ≡ before
  pub left : (after ≡ before) ⊎ IsMoved source file path more before after
