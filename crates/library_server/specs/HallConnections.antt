-- Several libraries that a command names, served on one connection by a hall, and the status. Our own. Read ServesLibraries first, and
-- ServesNamed at the end. Read before: Bringing; IsNewOf of `sync_calls`; hall_rules and Goes of `hall_server`; LinkView of `link_ears`.
use Rattle.std.specs.Prelude.{◌≡◌, ℕ, ◌<◌, ◌≤◌, List, [], ◌∷◌, length, slice_index_or, Option, Some, ⊤}
use Rattle.depot.specs.DepotView.{DepotView, IsGood}
use Rattle.depot.specs.Story.{ComesBy}
use Rattle.folder_storage.specs.Ground.{MayGive}
use Rattle.object_store.specs.Shelf.{Contents}
use Rattle.object_store.specs.declared.shelf.Slot.{Slot}
use Rattle.server_words.specs.Lines.{fault_status}
use Rattle.server_words.specs.Spelling.{location_text}
use Rattle.server_words.specs.declared.command.Location.{Location}
use Rattle.sync_calls.specs.Hall.{AreWithin, HallOf, PassOf, shown_by}
use Rattle.sync_calls.specs.Making.{AreSame, IsNewOf}
use Rattle.sync_calls.specs.Operations.{Line}
use Rattle.sync_calls.specs.Shown.{Shown}
use Rattle.turnstile.specs.Lists.{Has}
use Rattle.worker_server.specs.Calls.{Ran, Told, call_asked, collection_asked, look_asked, operations_of}
use Rattle.worker_server.specs.ServedConnection.{CountsEnd, EndsAsked, SessionInTime}
use Rattle.worker_server.specs.declared.served.Served.{Served}
use Rattle.hall_server.specs.Serving.{Goes, HallShown, hall_rules, hall_shown}
use Rattle.library_server.specs.Bringing.{AreBack, AreBrought, IsStoppedAt}
use Rattle.link_ears.specs.Ear.{LinkView}
use Rattle.library_server.specs.Connections.{ServesLocation, status_of}
use Rattle.library_server.specs.Lines.{fault_of_not_brought}
use Rattle.library_server.specs.Standing.{GroundView}
use Rattle.library_server.specs.declared.not_done.NotBrought.{NotBrought}

-- no collection is among what was asked
abbrev pub HasNoCollection : {Operation : Type 0} → List (Told Operation) → Type 0
HasNoCollection [] = ⊤
HasNoCollection (call_asked lib call answer lines ∷ calls) = HasNoCollection calls
HasNoCollection (collection_asked lib secret ends lines ∷ calls) = ⊥
HasNoCollection (look_asked lib secret tag same lines ∷ calls) = HasNoCollection calls

module _ {S : Type 0} (contents : S → Option Contents) (may_give : S → Slot → Option (List ℕ) → Type 0) (texts faults : S → ℕ) where
  -- each library that comes out comes by what was seen of it, of which each change was made through this pass
  abbrev pub AreLedTo : List (DepotView S) → List (Shown S) → List (DepotView S) → Type 0
  AreLedTo depots vs afters = (length afters ≡ length depots)
      × ((i : ℕ) (v : Shown S) (d e : DepotView S) → i < length depots
      → ComesBy contents may_give texts faults (slice_index_or depots i d) (slice_index_or vs i v).seen (slice_index_or afters i e)
      × ((p : ℕ) → p < length (slice_index_or vs i v).seen → Has p (slice_index_or vs i v).book))

  -- one connection with libraries that were started, through the one pass of a hall of them, which was new; they come out of the hall at its
  -- end. It read of no more turns of a lock than it took
  pub record ServesHall (shows : ℕ → Type 0) (depots afters : List (DepotView S)) (before now : LinkView) (status : ℕ) : Type 0 where
    pub how : Served
    pub hall : HallOf S
    pub pass : PassOf S
    pub last : HallShown S
    pub begins : IsNewOf contents may_give texts faults 1 depots hall pass
    pub session : (input : List ℕ) → before.left ≡ Some input
        → SessionInTime (hall_rules contents may_give texts faults shows) input before.tells now.tells (hall_shown pass) last how
    pub ran : (calls : List (Told Line)) × Ran (hall_rules contents may_give texts faults shows) (hall_shown pass) calls last × Goes contents may_give texts faults (shown_by pass) (operations_of calls) last.libraries
    pub each : AreLedTo depots last.libraries afters
    pub within : AreWithin last.drawn last.libraries
    pub count : CountsEnd before.faults now.faults how
    pub ends : EndsAsked how before.tells now.tells now.left
    pub status_is : status ≡ status_of how

  -- it was served so; or there was no memory for the hall, the libraries come back the same, and the link is left alone
  pub data HoldsHall (shows : ℕ → Type 0) (depots afters : List (DepotView S)) (before now : LinkView) (status : ℕ) : Type 0 where
    held : ServesHall shows depots afters before now status → HoldsHall shows depots afters before now status
    not_held : AreSame contents may_give texts faults depots afters → status ≡ 3 → now ≡ before → HoldsHall shows depots afters before now status

-- each of these stands for a library
abbrev pub AreGood : {S : Type 0} → (S → Option Contents) → (S → ℕ) → List (DepotView S) → ℕ → Type 0
AreGood {S} contents faults depots count = (i : ℕ) (d : DepotView S) → i < count → IsGood contents faults (slice_index_or depots i d)

-- one connection with the libraries that a command names, in this order, and with no other: all were started, served and are back; or
-- one was not started, the first in the order of the words, and those before it are back as they were started, which gives the status and
-- leaves the link alone; or there was no memory for the hall, and all are back as they were started
pub data ServesLibraries {S : Type 0} (contents : S → Option Contents) (may_give : S → Slot → Option (List ℕ) → Type 0) (texts faults : S → ℕ) (gives : MayGive)
    (location : Location) (libs : List (List ℕ)) (shows : ℕ → Type 0) (old new : GroundView) (before now : LinkView) (status : ℕ) : Type 0 where
  served : (depots afters : List (DepotView S)) → AreBrought contents may_give faults gives location shows old.stands libs (length libs) depots
      → ServesHall contents may_give texts faults shows depots afters before now status
      → AreBack contents old.stands new.stands (location_text location) libs afters (length libs) → AreGood contents faults afters (length libs)
      → ServesLibraries contents may_give texts faults gives location libs shows old new before now status
  stopped : (why : NotBrought) → IsStoppedAt contents may_give faults gives location shows libs old new why
      → status ≡ fault_status (fault_of_not_brought why) → now ≡ before
      → ServesLibraries contents may_give texts faults gives location libs shows old new before now status
  no_room : (depots afters : List (DepotView S)) → AreBrought contents may_give faults gives location shows old.stands libs (length libs) depots
      → AreSame contents may_give texts faults depots afters
      → AreBack contents old.stands new.stands (location_text location) libs afters (length libs) → AreGood contents faults afters (length libs)
      → status ≡ 3 → now ≡ before → ServesLibraries contents may_give texts faults gives location libs shows old new before now status

-- the libraries that a command names: one is served alone, and several through a hall
pub data ServesNamed {S : Type 0} (contents : S → Option Contents) (may_give : S → Slot → Option (List ℕ) → Type 0) (texts faults : S → ℕ) (gives : MayGive)
    (location : Location) (libs : List (List ℕ)) (shows : ℕ → Type 0) (old new : GroundView) (before now : LinkView) (status : ℕ) : Type 0 where
  one : (lib : List ℕ) → libs ≡ lib ∷ [] → ServesLocation contents may_give texts faults gives location lib shows old new before now status
      → ServesNamed contents may_give texts faults gives location libs shows old new before now status
  several : 2 ≤ length libs → ServesLibraries contents may_give texts faults gives location libs shows old new before now status
      → ServesNamed contents may_give texts faults gives location libs shows old new before now status
