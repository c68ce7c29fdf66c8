-- For private clauses: which room is that of a library. Read IsRoomOf.
use Rattle.std.specs.Prelude.{◌≡◌, ◌≢◌, ℕ, ◌<◌, List, length, slice_index_or}
use Rattle.sync_calls.specs.declared.hall.Room.{Room}

-- the first room of the library stands at this place
pub record IsRoomOf {L X : Type 0} (rooms : List (Room L X)) (lib : List ℕ) (place : ℕ) : Type 0 where
  pub within : place < length rooms
  pub is : (d : Room L X) → (slice_index_or rooms place d).door.lib ≡ lib
  pub first : (k : ℕ) (d : Room L X) → k < place → (slice_index_or rooms k d).door.lib ≢ lib

-- no room is that of the library
abbrev pub HasNoRoom : {L X : Type 0} → List (Room L X) → List ℕ → Type 0
HasNoRoom {L} {X} rooms lib = (k : ℕ) (d : Room L X) → k < length rooms → (slice_index_or rooms k d).door.lib ≢ lib
