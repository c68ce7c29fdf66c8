-- The command that serves one connection, and its status. Our own. Read ServesLocation first, at the end.
use Rattle.std.specs.Prelude.{◌≡◌, ℕ, false, List, Option, Some, ⊤}
use Rattle.depot.specs.DepotView.{DepotView, IsGood, state_of}
use Rattle.depot.specs.Giving.{GivesBy}
use Rattle.folder_storage.specs.Ground.{MayGive, Standing}
use Rattle.link_ears.specs.Ear.{LinkView}
use Rattle.library_rules.specs.LibraryState.{State}
use Rattle.object_store.specs.Shelf.{Contents}
use Rattle.object_store.specs.StoreView.{HasNoStray}
use Rattle.object_store.specs.declared.shelf.Slot.{Slot}
use Rattle.server_words.specs.Lines.{fault_status}
use Rattle.server_words.specs.Spelling.{location_text}
use Rattle.server_words.specs.declared.command.Location.{Location}
use Rattle.worker_server.specs.Calls.{Told, Ran, rules_at}
use Rattle.worker_server.specs.ServedConnection.{CountsEnd, EndsAsked, SessionInTime}
use Rattle.worker_server.specs.declared.served.Served.{Served}
use Rattle.worker_server.specs.declared.served.Served.TheVariants.{Ended, Limit, Cut, Refused, ReadFault, WriteFault, NoMemory}
use Rattle.library_server.specs.Answering.{AnswersOn, AreCaused, LooksOn, SparesOn}
use Rattle.library_server.specs.Collecting.{CollectsOn}
use Rattle.library_server.specs.Counting.{OpenedView, opened_now}
use Rattle.library_server.specs.Starting.{IsNotBrought, IsOfOpening, IsOpenedState, OpensTo, RefusesOpening, is_unbrought_counted}
use Rattle.library_server.specs.Lines.{fault_of_not_brought}
use Rattle.library_server.specs.Making.{RoseWhere}
use Rattle.library_server.specs.Standing.{ComesBack, GroundView, Returned}
use Rattle.library_server.specs.declared.not_done.NotBrought.{NotBrought}

-- 0 where all that was asked was replied, 1 after a fault, 3 for want of memory
abbrev pub status_of : Served → ℕ
status_of Ended = 0
status_of Limit = 0
status_of (Cut read) = 1
status_of (Refused status) = 1
status_of ReadFault = 1
status_of WriteFault = 1
status_of NoMemory = 3

-- one connection with a library that was opened; the connection's end gives the status
pub record ServesOpened {S : Type 0} (contents : S → Option Contents) (may_give : S → Slot → Option (List ℕ) → Type 0) (texts faults : S → ℕ)
    (shows : ℕ → Type 0) (library after : OpenedView S) (before now : LinkView) (status : ℕ) : Type 0 where
  pub how : Served
  pub session : (input : List ℕ) → before.left ≡ Some input
      → SessionInTime (rules_at shows (AnswersOn contents may_give texts faults) SparesOn (CollectsOn contents may_give texts faults) LooksOn) input before.tells now.tells library after how
  pub ran : (calls : List (Told ⊤)) × Ran (rules_at shows (AnswersOn contents may_give texts faults) SparesOn (CollectsOn contents may_give texts faults) LooksOn) library calls after × AreCaused (may_give library.depot.store.shelf) calls
  pub count : CountsEnd before.faults now.faults how
  pub last : EndsAsked how before.tells now.tells now.left
  pub status_is : status ≡ status_of how

-- why no library was opened: the refusal, its cause in what the named library may give, and that the storage's count rose
-- where it failed
pub record IsUnbrought {S : Type 0} (contents : S → Option Contents) (gives : Slot → Option (List ℕ) → Type 0)
    (location : Location) (lib : List ℕ) (shows : ℕ → Type 0) (old new : GroundView) (why : NotBrought) : Type 0 where
  pub told : (standing : Standing) → old.stands (location_text location) lib ≡ Some standing → RefusesOpening location lib shows standing why (new.stands (location_text location) lib)
  pub cause : IsNotBrought gives location lib shows why
  pub count : RoseWhere (is_unbrought_counted why) old.faults new.faults
  pub back : Returned contents old.stands new.stands (location_text location) lib

-- one connection with the library that a command names, and with no other: it was opened, served and is back, with what its
-- shelf then holds; or it was not opened, which gives the status, and the link is left alone. The shelf that was opened may
-- give what the named library might, and what the opening laid, and its slot has the text of its state; and damage that a reply tells has its cause in what that
-- library might give as it was handed out
pub data ServesLocation {S : Type 0} (contents : S → Option Contents) (may_give : S → Slot → Option (List ℕ) → Type 0) (texts faults : S → ℕ) (gives : MayGive)
    (location : Location) (lib : List ℕ) (shows : ℕ → Type 0) (old new : GroundView) (before now : LinkView) (status : ℕ) : Type 0 where
  opened : (depot : DepotView S) (after : OpenedView S) → IsOpenedState (gives (location_text location) lib) location lib shows depot.state
      → ((standing : Standing) → old.stands (location_text location) lib ≡ Some standing → (s : State) × (state_of contents faults depot ≡ Some s) × OpensTo location lib shows standing s)
      → GivesBy (IsOfOpening location lib shows depot.state) (gives (location_text location) lib) (may_give depot.store.shelf)
      → HasNoStray contents depot.store
      → depot.unsettled ≡ false
      → (service : ServesOpened contents may_give texts faults shows (opened_now depot) after before now status)
      → AreCaused (gives (location_text location) lib) service.ran.0
      → IsGood contents faults after.depot → ComesBack old.stands new.stands (location_text location) lib (contents after.depot.store.shelf)
      → ServesLocation contents may_give texts faults gives location lib shows old new before now status
  unbrought : (why : NotBrought) → IsUnbrought contents (gives (location_text location) lib) location lib shows old new why
      → status ≡ fault_status (fault_of_not_brought why) → now ≡ before
      → ServesLocation contents may_give texts faults gives location lib shows old new before now status
