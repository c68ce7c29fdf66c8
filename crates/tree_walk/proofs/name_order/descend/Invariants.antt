-- The names of the last entries, as many as were looked at, descend.
use Rattle.std.proofs.Common.{◌≡◌, ◌-◌, drop, length, true}
use Rattle.tree_walk.specs.NameOrder.{descending}
use Rattle.tree_walk.proofs.name_order.descend.Given as goal

abbrev pub invariant-loop-done : goal.invariant-loop-done
invariant-loop-done l = descending (drop (length l.entries - l.done) l.entries) ≡ true
