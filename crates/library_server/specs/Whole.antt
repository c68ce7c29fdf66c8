-- Libraries in which every object lies under its own name. Our own. Read IsWhole first.
-- Read before: NeverFails and NamesIn of Answering, Standing of folder_storage.
use Rattle.std.specs.Prelude.{◌≡◌, ℕ, false, List, [], Option, Some, Result, Ok, Err, ⊤}
use Rattle.depot.specs.DepotView.{DepotView}
use Rattle.folder_storage.specs.Ground.{Absent, HandedOut, Kept, MayGive, Standing, Standings}
use Rattle.folder_storage.specs.MemoryGround.{gives_in, standings}
use Rattle.object_store.specs.Shelf.{Contents, lies_in}
use Rattle.object_store.specs.Store.{HasNames}
use Rattle.object_store.specs.declared.shelf.Slot.{Slot}
use Rattle.server_words.specs.declared.fault.Fault.{Fault}
use Rattle.library_server.specs.Answering.{NamesIn}
use Rattle.library_server.specs.Lines.{is_storage_fault}
use Rattle.library_server.specs.Standing.{GroundView}

-- the library isn't there, or is there with each object under its own name
abbrev pub IsWhole : Standing → Type 0
IsWhole Absent = ⊤
IsWhole (Kept held) = HasNames held.objects
IsWhole HandedOut = ⊥

-- so stands every library, and each is told
abbrev pub AreWhole : Standings → Type 0
AreWhole stands = (folder lib : List ℕ) → (standing : Standing) × (stands folder lib ≡ Some standing) × IsWhole standing

-- what was made or opened has its objects under their own names; a refusal is none of the storage
abbrev pub OutWhole : {S E : Type 0} → (E → Fault) → (S → Option Contents) → Result (DepotView S) E → Type 0
OutWhole fault_of contents (Ok depot) = NamesIn contents depot
OutWhole fault_of contents (Err why) = is_storage_fault (fault_of why) ≡ false

-- a refusal is none of the storage
abbrev pub NotOfStorage : {T E : Type 0} → (E → Fault) → Result T E → Type 0
NotOfStorage fault_of (Ok x) = ⊤
NotOfStorage fault_of (Err why) = is_storage_fault (fault_of why) ≡ false

-- ---- memory

-- a shelf in memory that never fails gives what it holds
abbrev pub holds_in : Contents → Slot → Option (List ℕ) → Type 0
holds_in shelf slot given = given ≡ lies_in shelf slot

-- a place in memory without libraries
abbrev pub empty_ground : GroundView
empty_ground = record { stands = standings []; faults = 0 }

-- no library of it may give anything
abbrev pub empty_gives : MayGive
empty_gives = gives_in []
