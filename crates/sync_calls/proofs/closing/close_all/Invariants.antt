-- The libraries that were taken out are those of the passes that were taken.
use Rattle.std.proofs.Common.{◌≡◌, ◌+◌, ◌≤◌, length, take, vec_len}
use Rattle.std.specs.Prelude.{vec_capacity}
use Rattle.sync_calls.specs.Closing.{IsClosed}
use Rattle.sync_calls.specs.Making.{AreBehind}
use Rattle.sync_calls.proofs.closing.close_all.Given as goal

abbrev pub invariant-loop-room : goal.invariant-loop-room
invariant-loop-room g l =
    (vec_len l.passes ≡ vec_len l.rooms) × (vec_len l.depots + vec_len l.rooms ≤ vec_capacity l.depots) × (l.rooms.items ≡ take (length l.rooms.items) l.initial.rooms.items)
    × (length l.rooms.items ≤ length l.initial.rooms.items)
    × AreBehind (IsClosed g.S.Shelf.contents g.S.Shelf.may_give g.S.Shelf.texts g.S.Shelf.faults) l.initial.passes.items l.passes.items l.depots.items

abbrev pub decreases-loop-room : goal.decreases-loop-room
decreases-loop-room g l = vec_len l.rooms
