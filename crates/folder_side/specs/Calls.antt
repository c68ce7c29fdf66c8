-- The calls of a folder in their order, where it tells them. Our own. Read Call, then done_as and ReadsToEnd. Read before: Folder.
use Rattle.std.specs.Prelude.{◌≡◌, ℕ, ◌+◌, Bool, true, false, IsTrue, List, [], ◌∷◌, ◌++◌, length, Option, Result, Ok, Err}
use Rattle.std.specs.List.{AllByRecursion}
use Rattle.std.specs.Option.{option_map}
use Rattle.tree_model.specs.Path.{PathV}
use Rattle.block_chunker.specs.declared.cuts.Cuts.{Cuts}
use Rattle.folder_side.specs.declared.folder.ItemKind.{ItemKind}
use Rattle.folder_side.specs.declared.file_reader.FileRead.{FileRead}
use Rattle.folder_side.specs.declared.file_reader.ReadFault.{ReadFault}
use Rattle.folder_side.specs.FileRead.{ReadsFile}

-- A call that changes nothing in the folder is told with its answer, once it was done: what a look found, whether a file that was opened was
-- there, which bytes came from a place on, whether a file is as it was opened. A call that may change something is told done or not
pub data Call : Type 0 where
  Looked : PathV → Option ItemKind → Call
  Opened : PathV → Bool → Call
  Read : PathV → (place : ℕ) → List ℕ → Call
  Compared : PathV → Bool → Call
  SpareCleared : Call
  SpareAdded : (count : ℕ) → Call
  SpareSynced : Call
  Moved : PathV → Call
  MadeDir : PathV → Call
  Removed : PathV → Call

-- the calls so far and these after them, where they are told
abbrev pub with_calls : Option (List Call) → List Call → Option (List Call)
with_calls told more = option_map (λ calls. calls ++ more) told

-- one call was done, with this answer; after a failure none is told
abbrev pub done_as : {T E : Type 0} → (T → Call) → Result T E → List Call
done_as call (Ok x) = call x ∷ []
done_as call (Err e) = []

-- ---- kinds of calls

-- it leaves the folder and its spare as they are
abbrev pub is_glance : Call → Bool
is_glance (Looked path kind) = true
is_glance (Opened path there) = true
is_glance (Read path place bytes) = true
is_glance (Compared path same) = true
is_glance _ = false

-- it changes what stands at a path
abbrev pub is_touch : Call → Bool
is_touch (Moved path) = true
is_touch (MadeDir path) = true
is_touch (Removed path) = true
is_touch _ = false

-- just glances were made
pub record Glances (old new : Option (List Call)) : Type 0 where
  pub more : List Call
  pub grown : new ≡ with_calls old more
  pub glances : AllByRecursion (λ call. IsTrue (is_glance call)) more

-- ---- a file that is read

-- a file was read from a place to its end, piece by piece, and this is what came
abbrev pub ReadsToEnd : PathV → (place : ℕ) → List Call → List ℕ → Type 0
ReadsToEnd path place [] bytes = ⊥
ReadsToEnd path place (Read other from [] ∷ more) bytes = (other ≡ path) × (from ≡ place) × (more ≡ []) × (bytes ≡ [])
ReadsToEnd path place (Read other from (b ∷ bs) ∷ more) bytes =
    (other ≡ path) × (from ≡ place) × (rest : List ℕ) × (bytes ≡ (b ∷ bs) ++ rest) × ReadsToEnd path (place + length (b ∷ bs)) more rest
ReadsToEnd path place (_ ∷ more) bytes = ⊥

-- it was opened, and read from its start to its end
pub record ReadsWhole (path : PathV) (bytes : List ℕ) (old new : Option (List Call)) : Type 0 where
  pub reads : List Call
  pub grown : new ≡ with_calls old (Opened path true ∷ reads)
  pub whole : ReadsToEnd path 0 reads bytes

-- what is told of a file is what came
abbrev pub ReadsAs : Cuts → PathV → (old new : Option (List Call)) → Result FileRead ReadFault → Type 0
ReadsAs cuts path old new (Ok file) = (bytes : List ℕ) × ReadsWhole path bytes old new × ReadsFile cuts bytes file
ReadsAs cuts path old new (Err fault) = Glances old new

-- ---- for private clauses

-- the same of a file that was read from a place on, behind these bytes
abbrev pub ReadsOn : Cuts → PathV → (start : ℕ) → (before : List ℕ) → (old new : Option (List Call)) → Result FileRead ReadFault → Type 0
ReadsOn cuts path start before old new (Ok file) =
    (reads : List Call) × (bytes : List ℕ) × (new ≡ with_calls old reads) × ReadsToEnd path start reads bytes × ReadsFile cuts (before ++ bytes) file
ReadsOn cuts path start before old new (Err fault) = Glances old new
