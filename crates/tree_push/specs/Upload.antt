-- All that a library lacks of what is wanted is put. Our own. Read UploadsAll and UploadsSo.
use Rattle.std.specs.Prelude.{ℕ, ◌≡◌, true, List, [], ◌∷◌, ◌++◌, Some, IsSome, Result, Ok, Err, ⊤, option_and_then, ◌⊎◌}
use Rattle.std.specs.FinMap as fin
use Rattle.std.specs.List.{AllByRecursion}
use Rattle.ids.specs.declared.key.Key.{Key}
use Rattle.ids.specs.declared.key.Kind.TheVariants as kind
use Rattle.tree_model.specs.Path.{PathV}
use Rattle.block_chunker.specs.declared.cuts.Cuts.{Cuts}
use Rattle.folder_side.specs.Folder.{Contents, at}
use Rattle.folder_side.specs.ScanReport.{seen_of}
use Rattle.folder_side.specs.declared.scan_report.Seen.{Seen}
use Rattle.folder_side.specs.declared.scan_report.Seen.TheVariants as seen
use Rattle.object_graph.specs.Traversal.{is_in}
use Rattle.http_front.specs.declared.order.What.{What}
use Rattle.remote_calls.specs.Sends.{Sent}
use Rattle.sync_rules.specs.Named.{keys_lacked, keys_put, Named, named_by}
use Rattle.sync_rules.specs.Orders.{PutsLacked}
use Rattle.sync_rules.specs.declared.fault.SyncFault.{SyncFault}
use Rattle.sync_rules.specs.declared.fault.SyncFault.TheVariants as fault
use Rattle.tree_push.specs.Asking.{ArePuts, AsksIds, IsOrderFault, IsSend, Stops}
use Rattle.tree_push.specs.BlockUpload.{StandsThere}
use Rattle.tree_push.specs.ChangedOwns.{Owns}
use Rattle.tree_push.specs.Lacking.{has_key}
use Rattle.tree_push.specs.OfferedEntries.{SeenPaths}
use Rattle.tree_push.specs.Wanted.{ids_in}
use Rattle.tree_push.specs.declared.asking.Library.{Library}
use Rattle.tree_push.specs.declared.wanted.Wanted.{Wanted}

-- it was asked about each object and each block that is wanted, and just those that are lacking were put
pub record UploadsAll (library : Library) (wanted : Wanted) (more : List Sent) : Type 0 where
  pub first : List Sent
  pub second : List Sent
  pub third : List Sent
  pub is : more ≡ (first ++ second) ++ third
  pub objects : AsksIds library kind.Fs (ids_in (fin.entries wanted.made)) first
  pub blocks : AsksIds library kind.Block (ids_in (fin.entries wanted.blocks)) second
  pub puts : ArePuts third
  pub lacked : (key : Key) → is_in (keys_put third) key ≡ is_in (keys_lacked (first ++ second)) key

-- a key is wanted as an object, or as a block
abbrev pub IsWantedKey : Wanted → Key → Type 0
IsWantedKey wanted key = (has_key wanted.made key ≡ true) ⊎ (has_key wanted.blocks key ≡ true)

-- all that an order puts or asks about is wanted
abbrev pub OfWanted : Wanted → What → Type 0
OfWanted wanted asked = AllByRecursion (λ (n : Named). IsWantedKey wanted n.0) (named_by asked)

abbrev pub EndsUpload : Library → Wanted → List Sent → Result ⊤ SyncFault → Type 0
EndsUpload library wanted more (Ok x) = AllByRecursion (IsSend library (OfWanted wanted)) more × UploadsAll library wanted more
EndsUpload library wanted more (Err f) = Stops library (OfWanted wanted) f more

-- at no time is anything put that the library wasn't told to lack, nor asked about or put that isn't wanted
pub record UploadsSo (library : Library) (wanted : Wanted) (old new : List Sent) (result : Result ⊤ SyncFault) : Type 0 where
  pub more : List Sent
  pub grown : new ≡ old ++ more
  pub puts : PutsLacked [] more
  pub ends : EndsUpload library wanted more result

-- what was seen is what the folder has
abbrev pub SeesFolder : Cuts → Contents → SeenPaths → Type 0
SeesFolder cuts c seens = (path : PathV) → fin.get seens path ≡ option_and_then (seen_of cuts) (at c path)

-- each file of which there is an own id is what the folder has at its path
abbrev pub OwnedStand : Cuts → Contents → SeenPaths → Owns → Type 0
OwnedStand cuts c seens owns = (path : PathV) (s : Seen) → fin.get seens path ≡ Some s → IsSome (fin.get owns path) → StandsThere cuts c path s

-- the names of all blocks of the files in a list
abbrev pub blocks_of : Seen → List (List ℕ)
blocks_of seen.Dir = []
blocks_of (seen.File blocks size) = blocks

abbrev pub blocks_in : List (PathV × Seen) → List (List ℕ)
blocks_in [] = []
blocks_in (e ∷ es) = blocks_of e.1 ++ blocks_in es

-- that the folder failed, that a file was changed, a fault of an order, or want of memory
abbrev pub IsUploadFault : SyncFault → Type 0
IsUploadFault fault.Folder = ⊤
IsUploadFault (fault.Changed path) = ⊤
IsUploadFault f = IsOrderFault f
