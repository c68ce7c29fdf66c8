-- What comes of a library whose shelf stands for a state, as it is opened again, and of a shelf on which a library was to be made.
-- Our own. Read IsOpening and OpensAgain, then IsRefusedMaking and LeavesUnmade.
use Rattle.std.specs.Prelude.{◌≡◌, ◌<◌, ◌⊎◌, ℕ, false, List, Option, Some, Result, Ok, Err, IfOk, IfErr}
use Rattle.ids.specs.Key.{Objects}
use Rattle.library_rules.specs.Creation.{created, opening_commit}
use Rattle.library_rules.specs.LibraryState.{IsSound, State, last_number}
use Rattle.library_rules.specs.Recovery.{StandsFor, opened}
use Rattle.object_store.specs.Shelf.{Contents}
use Rattle.object_store.specs.StoreView.{AddsNoStray, StoreView, objects_of, status_of}
use Rattle.object_store.specs.declared.error.StoreFault.TheVariants.{Shelf}
use Rattle.depot.specs.DepotView.{DepotView, IsGood, state_of}
use Rattle.depot.specs.Make.{LeftUnmadeBy, first_state}
use Rattle.depot.specs.Start.{IsToldFault, LeftUnopenedBy, OpensTold, StartsAs, start_refusal, without_store}
use Rattle.depot.specs.declared.error.MakeFault.{MakeFault}
use Rattle.depot.specs.declared.error.MakeFault.TheVariants as make
use Rattle.depot.specs.declared.error.StartFault.{StartFault}
use Rattle.depot.specs.declared.error.StartFault.TheVariants as start

-- ---- opening

-- what is said of an opening: what `Depot::start` says
pub record IsOpening {S : Type 0} (contents : S → Option Contents) (faults : S → ℕ) (store : StoreView S) (result : Result (DepotView S) (StoreView S × StartFault)) : Type 0 where
  pub shown : (objects : Objects) → objects_of contents store ≡ Some objects → IfOk result (OpensTold contents faults store objects)
  pub stands : IfOk result (IsGood contents faults)
  pub settled : IfOk result (λ depot. depot.unsettled ≡ false)
  pub err : IfErr result (λ refused. LeftUnopenedBy contents store refused.0 refused.1)
  pub err_lying : IfErr result (λ refused. AddsNoStray contents store refused.0)
  pub stays : IfErr result (λ refused. objects_of contents refused.0 ≡ objects_of contents store)
  pub refused : (objects : Objects) (status : Option (List ℕ)) → objects_of contents store ≡ Some objects → status_of contents store ≡ Some status
      → StartsAs objects (start_refusal objects status) (without_store result)

-- the state with one opening more, and no collection running
abbrev pub raised : State → State
raised s = opened s.objects s.faults s

-- the shelf is as it was
abbrev pub IsAsItWas : {S : Type 0} → (S → Option Contents) → Contents → StoreView S → Type 0
IsAsItWas contents held store = contents store.shelf ≡ Some held

-- or it stands for the same library with one opening more, which is sound, and the same objects lie there
pub record IsRaised {S : Type 0} (contents : S → Option Contents) (held : Contents) (s : State) (store : StoreView S) : Type 0 where
  pub now : Contents
  pub told : contents store.shelf ≡ Some now
  pub objects : now.objects ≡ held.objects
  pub sound : IsSound (raised s)
  pub stands : StandsFor now.status now.objects (raised s)

-- why not: the last opening number was given, or the store failed, by damage of an object that lies there, by the shelf, or for want of memory
abbrev pub OpensNot : {S : Type 0} → (S → Option Contents) → Contents → State → StoreView S → StartFault → Type 0
OpensNot contents held s store start.Worn = (s.state.opening ≡ last_number) × IsAsItWas contents held store
OpensNot contents held s store (start.Store Shelf) = IsAsItWas contents held store ⊎ IsRaised contents held s store
OpensNot contents held s store (start.Store fault) = IsToldFault held.objects fault × IsAsItWas contents held store
OpensNot contents held s store start.NoState = ⊥
OpensNot contents held s store (start.BadState key) = ⊥
OpensNot contents held s store (start.Walk fault) = ⊥

-- a shelf that stands for a state is opened as that state, with all objects that lie there, no collection running and one opening more
abbrev pub OpensAgain : {S : Type 0} → (S → Option Contents) → (S → ℕ) → Contents → ℕ → State → Result (DepotView S) (StoreView S × StartFault) → Type 0
OpensAgain contents faults held count s (Ok depot) =
    (s.state.opening < last_number) × (state_of contents faults depot ≡ Some (opened held.objects count s)) × (depot.unsettled ≡ false) × IsGood contents faults depot
OpensAgain contents faults held count s (Err refused) = OpensNot contents held s refused.0 refused.1

-- ---- making

-- what is said of a library that wasn't made: what `Depot::make` says
pub record IsRefusedMaking {S : Type 0} (contents : S → Option Contents) (store : StoreView S) (lib name user secret : List ℕ) (moment : ℕ)
    (left : StoreView S) (fault : MakeFault) : Type 0 where
  pub err : LeftUnmadeBy contents store (opening_commit lib user moment) (first_state lib name user secret (opening_commit lib user moment).id moment) left fault

-- the slot is as it was; or, where the shelf failed, the shelf stands for the library that was to be made, which is sound
pub data LeavesUnmade (lib name user secret : List ℕ) (moment count : ℕ) (objects : Objects) (before : Option (List ℕ)) (held : Contents) (fault : MakeFault) : Type 0 where
  unwritten : held.status ≡ before → LeavesUnmade lib name user secret moment count objects before held fault
  begun : fault ≡ make.Store Shelf
      → IsSound (created lib name user secret moment objects count) × StandsFor held.status held.objects (created lib name user secret moment objects count)
      → LeavesUnmade lib name user secret moment count objects before held fault
