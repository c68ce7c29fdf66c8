-- The blocks of a file that are read again and put. Our own. Read PutsOff, StandsThere and NotChanged, then IsPutting.
use Rattle.std.specs.Prelude.{ℕ, ◌≡◌, ◌⊎◌, ◌&&◌, not, List, ◌++◌, map, Some, option_and_then, Result, Ok, Err, ⊤}
use Rattle.ids.specs.declared.key.Key.{Key}
use Rattle.object_graph.specs.Reached.{block_keys}
use Rattle.object_graph.specs.Traversal.{is_in}
use Rattle.remote_calls.specs.Sends.{Sent}
use Rattle.sync_rules.specs.Named.{keys_put}
use Rattle.tree_push.specs.Asking.{ArePuts, IsOrderFault}
use Rattle.tree_push.specs.Lacking.{Keys, has_key}
use Rattle.sha1.specs.Sha1.{sha1}
use Rattle.tree_model.specs.Path.{PathV}
use Rattle.block_chunker.specs.declared.cuts.Cuts.{Cuts}
use Rattle.folder_side.specs.Folder.{Contents, at}
use Rattle.folder_side.specs.ScanReport.{seen_of}
use Rattle.folder_side.specs.declared.scan_report.Seen.{Seen}
use Rattle.folder_side.specs.declared.scan_report.Seen.TheVariants as seen
use Rattle.folder_side.specs.declared.error.FolderFault.{FolderFault}
use Rattle.folder_side.specs.declared.error.FolderFault.TheVariants as folder
use Rattle.sync_rules.specs.declared.fault.SyncFault.{SyncFault}
use Rattle.sync_rules.specs.declared.fault.SyncFault.TheVariants as fault

-- of the blocks of these names just those are put that were noted as lacking, and none of these names is noted any more; all else stays
-- noted as it was
pub record PutsOff (ids : List (List ℕ)) (old new : Keys) (more : List Sent) : Type 0 where
  pub puts : ArePuts more
  pub put : (key : Key) → is_in (keys_put more) key ≡ (has_key old key && is_in (block_keys ids) key)
  pub left : (key : Key) → has_key new key ≡ (has_key old key && not (is_in (block_keys ids) key))

-- it isn't told that a file was changed
abbrev pub IsNoChange : SyncFault → Type 0
IsNoChange (fault.Changed path) = ⊥
IsNoChange _ = ⊤

abbrev pub NotChanged : {T : Type 0} → Result T SyncFault → Type 0
NotChanged (Ok x) = ⊤
NotChanged (Err f) = IsNoChange f

-- a file that was seen at a path is what the folder has there: it has these chunks and this size, and no byte more
abbrev pub StandsThere : Cuts → Contents → PathV → Seen → Type 0
StandsThere cuts c path seen.Dir = ⊤
StandsThere cuts c path (seen.File blocks size) = Some (seen.File blocks size) ≡ option_and_then (seen_of cuts) (at c path)

-- that this file was changed, or a fault of an order
abbrev pub IsPutFault : PathV → SyncFault → Type 0
IsPutFault path (fault.Changed other) = other ≡ path
IsPutFault path f = IsOrderFault f

-- that the folder failed, that this file was changed, or that memory was wanting
abbrev pub IsFileFault : PathV → SyncFault → Type 0
IsFileFault path fault.Folder = ⊤
IsFileFault path (fault.Changed other) = other ≡ path
IsFileFault path fault.NoMemory = ⊤
IsFileFault path _ = ⊥

-- one of these, or a fault of an order
abbrev pub IsReadFault : PathV → SyncFault → Type 0
IsReadFault path fault.Folder = ⊤
IsReadFault path f = IsPutFault path f

-- ---- for private clauses

-- the fault of a call of the folder
abbrev pub folder_fault : FolderFault → SyncFault
folder_fault folder.Folder = fault.Folder
folder_fault folder.NoMemory = fault.NoMemory

-- that this path was changed is told, or memory was wanting for it
abbrev pub IsChange : PathV → SyncFault → Type 0
IsChange path f = (f ≡ fault.Changed path) ⊎ (f ≡ fault.NoMemory)

-- of these chunks some were met, with their names in front, and these chunks and names are left
pub record IsPutting (chunks : List (List ℕ)) (names : List (List ℕ)) (more left : List (List ℕ)) : Type 0 where
  pub met : List (List ℕ)
  pub of_chunks : chunks ≡ met ++ more
  pub of_names : names ≡ map sha1 met ++ left
