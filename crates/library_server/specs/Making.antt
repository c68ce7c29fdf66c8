-- A library that is made where there is none. Our own. Read MakesSo first, then IsNotMade.
use Rattle.std.specs.Prelude.{◌≡◌, ◌≢◌, ◌⊎◌, ℕ, Bool, false, List, Option, None, Some, IsTrue, Result, Ok, Err, ⊤}
use Rattle.std.specs.FinMap as map
use Rattle.ids.specs.FaultCount.{Rose}
use Rattle.ids.specs.Key.{Objects}
use Rattle.depot.specs.DepotView.{DepotView, state_of}
use Rattle.depot.specs.Make.{IsMakeFault, first_state, is_make_counted, is_make_free, make_refusal}
use Rattle.depot.specs.declared.error.MakeFault.{MakeFault}
use Rattle.folder_storage.specs.Ground.{Absent, Kept, Standing, no_contents}
use Rattle.library_rules.specs.Changes.{put_new}
use Rattle.library_rules.specs.Creation.{created, opening_commit, opening_object}
use Rattle.library_rules.specs.LibraryState.{State}
use Rattle.library_rules.specs.declared.entry.Stored.{Stored}
use Rattle.library_state.specs.StateSpelling.{text_of}
use Rattle.library_state.specs.declared.state.LibState.{LibState}
use Rattle.object_graph.specs.Unchanged.{Keeps}
use Rattle.object_store.specs.Shelf.{Contents, is_counted}
use Rattle.object_store.specs.Store.{put_refusal}
use Rattle.object_store.specs.declared.shelf.Slot.{Slot}
use Rattle.library_server.specs.declared.making.NewLibrary.{NewLibrary}
use Rattle.library_server.specs.declared.not_done.NotMade.{NotMade}
use Rattle.library_server.specs.declared.not_done.NotMade.TheVariants.{Storage, Exists, Refused}

abbrev pub no_objects : Objects
no_objects = map.empty

-- the new library, with its opening commit of this moment
abbrev pub library_of : NewLibrary → ℕ → ℕ → State
library_of new moment faults = created new.lib new.name new.user new.secret moment no_objects faults

-- its opening commit of this moment
abbrev pub new_commit : NewLibrary → ℕ → Stored
new_commit new moment = opening_object (opening_commit new.lib new.user moment)

-- what its text tells
abbrev pub first_of : NewLibrary → ℕ → LibState
first_of new moment = first_state new.lib new.name new.user new.secret (opening_commit new.lib new.user moment).id moment

-- why the opening commit of this moment can't be put on an empty shelf: it has forty zeros
abbrev pub new_refusal : NewLibrary → ℕ → Option MakeFault
new_refusal new moment =
    make_refusal None (put_refusal no_objects (opening_object (opening_commit new.lib new.user moment)).key (opening_object (opening_commit new.lib new.user moment)).bytes)

-- what lies in the slot where a library could not be made: what lay there, or, where the storage failed, the text of the
-- new library, whose opening commit then lies there too
abbrev pub MayBegin : NewLibrary → ℕ → MakeFault → Contents → Contents → Type 0
MayBegin new moment why held h = (h.status ≡ held.status)
    ⊎ (IsTrue (is_make_counted why) × (h.status ≡ Some (text_of (first_of new moment))) × Keeps (put_new held.objects (new_commit new moment)) h.objects)

abbrev pub LeavesText : NewLibrary → ℕ → MakeFault → Contents → Option Contents → Type 0
LeavesText new moment why held now = (h : Contents) × (now ≡ Some h) × MayBegin new moment why held h

abbrev pub LeavesNew : NewLibrary → ℕ → MakeFault → Option Standing → Type 0
LeavesNew new moment why after = (h : Contents) × (after ≡ Some (Kept h)) × MayBegin new moment why no_contents h

-- over told libraries, as one stood before and stands after, why none is made: one is there, and is as it was; or the
-- opening commit can't be put. A failure of the storage and want of memory may come in any other's place
abbrev pub RefusesNew : NewLibrary → ℕ → Standing → NotMade → Option Standing → Type 0
RefusesNew new moment standing Exists after = (standing ≢ Absent) × (after ≡ Some standing)
RefusesNew new moment standing (Storage failed) after = after ≡ Some standing
RefusesNew new moment standing (Refused why) after =
    (standing ≡ Absent) × ((new_refusal new moment ≡ Some why) ⊎ IsTrue (is_make_free why)) × LeavesNew new moment why after

-- over told libraries: where there was none, a new one is made, or the refusal is that
abbrev pub MakesSo : {S : Type 0} → (S → Option Contents) → (S → ℕ) → NewLibrary → ℕ → Standing → Result (DepotView S) NotMade → Option Standing → Type 0
MakesSo contents faults new moment standing (Ok depot) after =
    (standing ≡ Absent) × (count : ℕ) × (state_of contents faults depot ≡ Some (library_of new moment count))
MakesSo contents faults new moment standing (Err why) after = RefusesNew new moment standing why after

-- the same over any ground: the state of a library that was made
abbrev pub IsNew : {S : Type 0} → NewLibrary → ℕ → DepotView S → Type 0
IsNew new moment depot =
    (depot.state ≡ first_of new moment)
    × (depot.unsettled ≡ false)

-- and the cause of each refusal, in what the library may give as it is handed out
abbrev pub IsNotMade : (Slot → Option (List ℕ) → Type 0) → NewLibrary → ℕ → NotMade → Type 0
IsNotMade gives new moment (Storage failed) = ⊤
IsNotMade gives new moment Exists = ⊤
IsNotMade gives new moment (Refused why) = IsMakeFault gives (opening_object (opening_commit new.lib new.user moment)) why

-- the failure that the storage counts
abbrev pub is_unmade_counted : NotMade → Bool
is_unmade_counted (Storage failed) = is_counted failed
is_unmade_counted Exists = false
is_unmade_counted (Refused why) = is_make_counted why

-- a failure of the storage comes only where its count rose
abbrev pub RoseWhere : Bool → ℕ → ℕ → Type 0
RoseWhere counted before now = IsTrue counted → Rose before now
