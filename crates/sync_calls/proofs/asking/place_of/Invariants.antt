-- No room so far is that of the library.
use Rattle.std.proofs.Common.{◌≢◌, ℕ, ◌<◌, slice_index_or}
use Rattle.sync_calls.specs.declared.hall.Room.{Room}
use Rattle.sync_calls.proofs.asking.place_of.Given as goal

abbrev pub invariant-loop-place : goal.invariant-loop-place
invariant-loop-place g l = (k : ℕ) (d : Room g.row.L.Denot g.row.X.Denot) → k < l.place → (slice_index_or l.rooms k d).door.lib ≢ l.lib
