-- What a checkout does right before it touches a path. Our own. Read IsReady and LooksBeforeEach, then Touches. Read before: SecondLook, and
-- Calls of `folder_side`.
use Rattle.std.specs.Prelude.{◌≡◌, ℕ, Bool, true, false, List, [], ◌∷◌, ◌++◌, Option, None, Some, Result, Ok, Err, ⊤}
use Rattle.std.specs.FinMap as fin
use Rattle.std.specs.List.{AllByRecursion}
use Rattle.block_chunker.specs.declared.cuts.Cuts.{Cuts}
use Rattle.tree_model.specs.Path.{PathV}
use Rattle.folder_side.specs.Calls.{Call, Compared, Glances, Looked, MadeDir, Moved, Opened, ReadsToEnd, Removed, SpareAdded, SpareCleared, SpareSynced, is_touch, with_calls}
use Rattle.folder_side.specs.FileRead.{ReadsFile}
use Rattle.folder_side.specs.declared.folder.ItemKind.TheVariants as kind
use Rattle.folder_side.specs.declared.scan_report.Scan.{Scan}
use Rattle.folder_side.specs.declared.scan_report.Seen.{Seen}
use Rattle.folder_side.specs.declared.scan_report.Seen.TheVariants as seen
use Rattle.tree_checkout.specs.SecondLook.{file_seen}

-- ---- a look

-- a file was opened, read from its start to its end, and then was as it had been opened; what came has these chunks and this size
pub record ReadsSame (cuts : Cuts) (path : PathV) (blocks : List (List ℕ)) (size : ℕ) (calls : List Call) : Type 0 where
  pub reads : List Call
  pub bytes : List ℕ
  pub made : calls ≡ Opened path true ∷ (reads ++ Compared path true ∷ [])
  pub whole : ReadsToEnd path 0 reads bytes
  pub same : ReadsFile cuts bytes (record { blocks = blocks; size = size })

-- just these calls are one look at a path, and what they found is what was seen there first
abbrev pub FindsAs : Cuts → Option Seen → PathV → List Call → Type 0
FindsAs cuts None path calls = calls ≡ Looked path None ∷ []
FindsAs cuts (Some seen.Dir) path calls = calls ≡ Looked path (Some kind.Dir) ∷ []
FindsAs cuts (Some (seen.File blocks size)) path calls =
    (rest : List Call) × (calls ≡ Looked path (Some kind.File) ∷ rest) × ReadsSame cuts path blocks size rest

-- the last calls are such a look
pub record EndsInLook (cuts : Cuts) (first : Option Seen) (path : PathV) (calls : List Call) : Type 0 where
  pub earlier : List Call
  pub look : List Call
  pub ends : calls ≡ earlier ++ look
  pub found : FindsAs cuts first path look

-- ---- the spare

-- the spare is written, or moved away
abbrev pub is_of_spare : Call → Bool
is_of_spare SpareCleared = true
is_of_spare (SpareAdded count) = true
is_of_spare (Moved path) = true
is_of_spare _ = false

-- what the spare holds was made durable, and it was neither written nor moved since
pub record IsSynced (calls : List Call) : Type 0 where
  pub earlier : List Call
  pub later : List Call
  pub ends : calls ≡ earlier ++ SpareSynced ∷ later
  pub left : AllByRecursion (λ call. is_of_spare call ≡ false) later

-- ---- the touches

-- Right before a touch stands a look at its path, which found what a scan saw there, and nothing between: for a removal what the scan saw;
-- for a directory that is made nothing; for a file that is moved in the file that the scan saw, or nothing. That file is durable before
abbrev pub IsReady : Cuts → Scan → (before : List Call) → Call → Type 0
IsReady cuts scan before (Moved path) = EndsInLook cuts (file_seen (fin.get scan.paths path)) path before × IsSynced before
IsReady cuts scan before (MadeDir path) = EndsInLook cuts None path before
IsReady cuts scan before (Removed path) = EndsInLook cuts (fin.get scan.paths path) path before
IsReady cuts scan before _ = ⊤

-- each of these calls was ready, once those before it were made
abbrev pub LooksBeforeEach : Cuts → Scan → (before : List Call) → List Call → Type 0
LooksBeforeEach cuts scan before [] = ⊤
LooksBeforeEach cuts scan before (call ∷ more) = IsReady cuts scan before call × LooksBeforeEach cuts scan (before ++ call ∷ []) more

-- these calls were made, and each touch was ready
pub record Touches (cuts : Cuts) (scan : Scan) (old new : Option (List Call)) : Type 0 where
  pub more : List Call
  pub grown : new ≡ with_calls old more
  pub looks : LooksBeforeEach cuts scan [] more

-- ---- for private clauses

-- a look found what was seen first
pub record Finds (cuts : Cuts) (first : Option Seen) (path : PathV) (old new : Option (List Call)) : Type 0 where
  pub look : List Call
  pub grown : new ≡ with_calls old look
  pub found : FindsAs cuts first path look

-- it did where it is told so; whatever it told, just glances were made
abbrev pub LooksSo : {T E : Type 0} → Cuts → Option Seen → PathV → (old new : Option (List Call)) → Result T E → Type 0
LooksSo cuts first path old new (Ok x) = Finds cuts first path old new
LooksSo cuts first path old new (Err f) = Glances old new

abbrev pub LooksIf : {E : Type 0} → Cuts → Option Seen → PathV → (old new : Option (List Call)) → Result Bool E → Type 0
LooksIf cuts first path old new (Ok true) = Finds cuts first path old new
LooksIf cuts first path old new (Ok false) = Glances old new
LooksIf cuts first path old new (Err f) = Glances old new

-- the same of the reading of a file alone
pub record ReadsThere (cuts : Cuts) (path : PathV) (blocks : List (List ℕ)) (size : ℕ) (old new : Option (List Call)) : Type 0 where
  pub reads : List Call
  pub bytes : List ℕ
  pub grown : new ≡ with_calls old (Opened path true ∷ reads)
  pub whole : ReadsToEnd path 0 reads bytes
  pub same : ReadsFile cuts bytes (record { blocks = blocks; size = size })

abbrev pub ReadsIf : {E : Type 0} → Cuts → PathV → (blocks : List (List ℕ)) → (size : ℕ) → (old new : Option (List Call)) → Result Bool E → Type 0
ReadsIf cuts path blocks size old new (Ok true) = ReadsThere cuts path blocks size old new
ReadsIf cuts path blocks size old new (Ok false) = Glances old new
ReadsIf cuts path blocks size old new (Err f) = Glances old new

pub record ComparesSame (cuts : Cuts) (path : PathV) (blocks : List (List ℕ)) (size : ℕ) (old new : Option (List Call)) : Type 0 where
  pub calls : List Call
  pub grown : new ≡ with_calls old calls
  pub same : ReadsSame cuts path blocks size calls

abbrev pub ComparesIf : {E : Type 0} → Cuts → PathV → (blocks : List (List ℕ)) → (size : ℕ) → (old new : Option (List Call)) → Result Bool E → Type 0
ComparesIf cuts path blocks size old new (Ok true) = ComparesSame cuts path blocks size old new
ComparesIf cuts path blocks size old new (Ok false) = Glances old new
ComparesIf cuts path blocks size old new (Err f) = Glances old new

-- no path was touched
pub record TouchesNone (old new : Option (List Call)) : Type 0 where
  pub more : List Call
  pub grown : new ≡ with_calls old more
  pub quiet : AllByRecursion (λ call. is_touch call ≡ false) more
