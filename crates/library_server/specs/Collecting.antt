-- What a collection that is asked for does: turn after turn, up to the end of its collection or a refusal, and each is counted. Our own.
-- Read CollectsOn first. Read before: Turns of `collection_turns`.
use Rattle.std.specs.Prelude.{◌≡◌, ◌≢◌, ℕ, Bool, true, false, List, [], ◌∷◌, ◌++◌, Option, None, Some, ⊤}
use Rattle.std.specs.FinMap as map
use Rattle.collection_turns.specs.Turns as turns
pub use Rattle.collection_turns.specs.Turns.{EndsAs, TellsTurns, ended, endless, goes_on, most_in_turn, number_running, told_removed}
use Rattle.depot.specs.CollectionTurns.{permits_collection}
use Rattle.depot.specs.DepotView.{DepotView}
use Rattle.depot.specs.declared.turn.Turn.{Turn}
use Rattle.library_rules.specs.Calls.{token_of}
use Rattle.library_rules.specs.LibraryState.{Running}
use Rattle.library_state.specs.declared.refusal.Refusal.TheVariants as refusal
use Rattle.object_store.specs.Shelf.{Contents}
use Rattle.object_store.specs.declared.shelf.Slot.{Slot}
use Rattle.worker_server.specs.declared.host.Collected.{Collected}
use Rattle.worker_server.specs.declared.host.Collected.TheVariants as collected
use Rattle.library_server.specs.Answering.{NamesIn, NeverFails, is_of_storage}
use Rattle.library_server.specs.Counting.{IsCounted, OpenedView}

-- the library whose changes are counted
abbrev pub library_of : {S : Type 0} → OpenedView S → DepotView S
library_of library = library.depot

module _ {S : Type 0} (contents : S → Option Contents) (may_give : S → Slot → Option (List ℕ) → Type 0) (texts faults : S → ℕ) (shows : ℕ → Type 0) where
  -- these turns were taken one after another, each at a moment that the clock shows, and each but the first with the collection
  -- that the one before it left as its goal; and each that changed the library was counted
  abbrev pub TurnsOn : OpenedView S → Option ℕ → List Turn → OpenedView S → Type 0
  TurnsOn u goal taken v = turns.TurnsOn library_of (IsCounted contents faults) contents may_give texts faults shows u goal taken v

  -- turns that tell this were taken
  abbrev pub TakesTurns : OpenedView S → Collected → OpenedView S → Type 0
  TakesTurns old ends new = turns.TakesTurns library_of (IsCounted contents faults) contents may_give texts faults shows old ends new

-- some turn is the last of these, and tells this end
pub record IsLastOf (taken : List Turn) (ends : Collected) : Type 0 where
  pub before : List Turn
  pub last : Turn
  pub is : taken ≡ before ++ last ∷ []
  pub tells : EndsAs last (told_removed taken) ends

-- how many objects were known as the collection began that runs, or are where none does
abbrev pub known_as_begun : ℕ → Option Running → ℕ
known_as_begun known None = known
known_as_begun known (Some running) = running.stored

abbrev pub begun_over : {S : Type 0} → DepotView S → ℕ
begun_over depot = known_as_begun (map.len depot.store.index) depot.running

-- a refusal by the storage
abbrev pub is_storage_end : Collected → Bool
is_storage_end (collected.Done number removed) = false
is_storage_end (collected.Refused why) = is_of_storage why

-- ---- all of it

-- the library that is served was collected, by one who may; or one who may not is denied; and there is no other library. It
-- keeps no record of operations. Where the storage never fails and objects lie under their own names, no end is a refusal by
-- the storage, and so they lie afterwards
pub record CollectsOn {S : Type 0} (contents : S → Option Contents) (may_give : S → Slot → Option (List ℕ) → Type 0) (texts faults : S → ℕ) (shows : ℕ → Type 0)
    (old : OpenedView S) (lib : List ℕ) (secret : Option (List ℕ)) (ends : Collected) (lines : List ⊤) (new : OpenedView S) : Type 0 where
  pub here : lib ≡ old.depot.state.lib → permits_collection (token_of old.depot.state.tokens secret) ≡ true → TakesTurns contents may_give texts faults shows old ends new
  pub denied : lib ≡ old.depot.state.lib → permits_collection (token_of old.depot.state.tokens secret) ≡ false → (ends ≡ collected.Refused refusal.Denied) × (new ≡ old)
  pub elsewhere : lib ≢ old.depot.state.lib → (ends ≡ collected.Refused refusal.NoLibrary) × (new ≡ old)
  pub steady : NeverFails faults → NamesIn contents old.depot → (is_storage_end ends ≡ false) × NamesIn contents new.depot
  pub no_lines : lines ≡ []
