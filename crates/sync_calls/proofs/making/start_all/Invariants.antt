-- The libraries that were taken are in their rooms.
use Rattle.std.proofs.Common.{◌≡◌, ◌+◌, ◌≤◌, vec_len}
use Rattle.std.specs.Prelude.{vec_capacity}
use Rattle.sync_calls.specs.Making.{AreBehind, IsFresh}
use Rattle.sync_calls.proofs.making.start_all.Given as goal

abbrev pub invariant-loop-depot : goal.invariant-loop-depot
invariant-loop-depot g l =
    (vec_len l.depots + vec_len l.rooms ≤ vec_capacity l.depots) × (vec_len l.depots + vec_len l.rooms ≤ vec_capacity l.rooms) × (vec_capacity l.depots ≡ vec_capacity l.fn.depots)
    × AreBehind (IsFresh l.passes) l.fn.depots.items l.depots.items l.rooms.items

abbrev pub decreases-loop-depot : goal.decreases-loop-depot
decreases-loop-depot g l = vec_len l.depots
