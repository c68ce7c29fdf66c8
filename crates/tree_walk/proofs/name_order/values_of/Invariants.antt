-- What was taken, with what is left, is all.
use Rattle.std.proofs.Common.{◌≡◌, ◌++◌, btree_map_len}
use Rattle.tree_walk.proofs.OrderedLemmas.{seconds}
use Rattle.tree_walk.proofs.name_order.values_of.Given as goal

abbrev pub invariant-loop-entry : goal.invariant-loop-entry
invariant-loop-entry l = l.sorted.items ++ seconds l.table.entries ≡ seconds l.fn.table.entries

abbrev pub decreases-loop-entry : goal.decreases-loop-entry
decreases-loop-entry l = btree_map_len l.table
