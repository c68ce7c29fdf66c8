-- The first holders stand in the list.
use Rattle.std.proofs.Common.{◌≡◌, ◌-◌, length, take, vec_len}
use Rattle.sync_calls.specs.Door.{holders_of}
use Rattle.sync_calls.proofs.door.holders_of.Given as goal

abbrev pub invariant-loop-holder : goal.invariant-loop-holder
invariant-loop-holder g l = l.holders.items ≡ take (vec_len l.holders) (holders_of l.depot.state.tokens)

abbrev pub decreases-loop-holder : goal.decreases-loop-holder
decreases-loop-holder g l = length (holders_of l.depot.state.tokens) - vec_len l.holders
