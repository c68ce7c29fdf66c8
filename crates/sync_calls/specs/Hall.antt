-- What a hall and its passes are: for each library a room with its door and its lock, and in each pass one to each room. Our own.
-- Read IsReadyAt, then AreReady, StaySpent and AreWithin.
use Rattle.std.specs.Prelude.{◌≡◌, ℕ, ◌<◌, ◌≤◌, List, slice_index_or, map as map_list, Option, Some, vec_len, vec_capacity}
use Rattle.std.specs.List.{slice_get}
use Rattle.object_store.specs.Shelf.{Contents}
use Rattle.object_store.specs.declared.shelf.Slot.{Slot}
use Rattle.depot.specs.DepotView.{DepotView}
use Rattle.depot.specs.declared.story.Change.{Change}
use Rattle.turnstile.specs.PassView.{IsPassOf, drawn_of, first_of, parts_of, passes_of, start_of}
use Rattle.turnstile.specs.Rule.{most_turns}
use Rattle.turnstile.specs.declared.lock.Lock.{Lock}
use Rattle.turnstile.specs.declared.rule.Turns.{Turns}
use Rattle.turnstile.specs.declared.seated.Seated.{Seated}
use Rattle.turnstile.specs.declared.view.About.{About}
use Rattle.turnstile.specs.declared.view.Parcel.{Parcel}
use Rattle.turnstile.specs.declared.view.View.{View}
use Rattle.sync_calls.specs.Door.{IsDoorOf}
use Rattle.sync_calls.specs.Shown.{Knows, LibraryPass, all_shown, shown_of}
use Rattle.sync_calls.specs.Shown.{Shown}
use Rattle.sync_calls.specs.declared.hall.Passes.{Passes}
use Rattle.sync_calls.specs.declared.hall.Exit.{Exit}
use Rattle.sync_calls.specs.declared.hall.Room.{Room}
use Rattle.sync_calls.specs.declared.hall.Rooms.{Rooms}

-- the room of a library, and the way out for all libraries, with its pass
abbrev pub LibraryRoom : Type 0 → Type 0
LibraryRoom S = Room (Lock (Parcel (DepotView S) (Change (DepotView S))) (View (DepotView S) (Change (DepotView S))) (About (DepotView S)) (Turns (DepotView S))) (DepotView S)

abbrev pub ExitOf : Type 0 → Type 0
ExitOf S = Exit (DepotView S)

abbrev pub ExitLock : Type 0 → Type 0
ExitLock S = Lock (Parcel (ExitOf S) ℕ) (View (ExitOf S) ℕ) (About (ExitOf S)) (Turns (ExitOf S))

abbrev pub ExitPass : Type 0 → Type 0
ExitPass S = Seated (Parcel (ExitOf S) ℕ) (View (ExitOf S) ℕ)

abbrev pub HallOf : Type 0 → Type 0
HallOf S = Rooms (LibraryRoom S) (ExitLock S)

abbrev pub PassOf : Type 0 → Type 0
PassOf S = Passes (LibraryPass S) (ExitPass S)

module _ {S : Type 0} where
  abbrev pub rooms_of : HallOf S → List (LibraryRoom S)
  rooms_of hall = hall.rooms.items

  abbrev pub passes_in : PassOf S → List (LibraryPass S)
  passes_in pass = pass.passes.items

  -- what is shown of each library, and the number last read of each lock's next ticket
  abbrev pub shown_by : PassOf S → List (Shown S)
  shown_by pass = all_shown (passes_in pass)

  abbrev pub drawn_by : PassOf S → List ℕ
  drawn_by pass = map_list drawn_of (passes_in pass)

  -- for how many passes it stands, of how many
  abbrev pub shares_of : PassOf S → ℕ
  shares_of pass = parts_of pass.exit

  abbrev pub made_with : PassOf S → ℕ
  made_with pass = passes_of pass.exit

-- a lock whose last turn was drawn, as the pass has read, stays so
abbrev pub StaySpent : List ℕ → List ℕ → Type 0
StaySpent old new = (library : ℕ) → slice_get old library ≡ Some most_turns → slice_get new library ≡ Some most_turns

-- no number was read of a lock that is greater than the turns that were taken at it
abbrev pub AreWithin : {S : Type 0} → List ℕ → List (Shown S) → Type 0
AreWithin {S} draws us = (library drawn : ℕ) (u : Shown S) → slice_get draws library ≡ Some drawn → slice_get us library ≡ Some u → drawn ≤ u.turns

module _ {S : Type 0} (contents : S → Option Contents) (may_give : S → Slot → Option (List ℕ) → Type 0) (texts faults : S → ℕ) where
  -- the pass is one of this room, for so many of so many; it begins with the library of the room, and knows its history. The first
  -- ticket of the lock is 0
  pub record IsReadyAt (shares made : ℕ) (room : LibraryRoom S) (pass : LibraryPass S) : Type 0 where
    pub ready : IsPassOf room.lock pass
    pub knows : Knows contents may_give texts faults (shown_of pass)
    pub begins : start_of pass ≡ Some room.start.value
    pub opens : IsDoorOf room.door room.start.value
    pub share : parts_of pass ≡ shares
    pub among : passes_of pass ≡ made
    pub first : first_of pass ≡ 0

  -- the pass is one of this hall, to each of its rooms
  pub record AreReady (hall : HallOf S) (pass : PassOf S) : Type 0 where
    pub leaves : IsPassOf hall.exit pass.exit
    pub way : ExitOf S
    pub starts : start_of pass.exit ≡ Some way
    pub empty : vec_len way.depots ≡ 0
    pub fits : vec_len hall.rooms ≤ vec_capacity way.depots
    pub size : vec_len pass.passes ≡ vec_len hall.rooms
    pub each : (i : ℕ) (room : LibraryRoom S) (to : LibraryPass S) → i < vec_len hall.rooms
        → IsReadyAt (shares_of pass) (made_with pass) (slice_index_or (rooms_of hall) i room) (slice_index_or (passes_in pass) i to)
