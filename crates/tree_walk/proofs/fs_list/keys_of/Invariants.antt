-- What was taken, with what is left, is all.
use Rattle.std.proofs.Common.{◌≡◌, ◌++◌, btree_map_len}
use Rattle.tree_walk.proofs.KnownLemmas.{firsts}
use Rattle.tree_walk.proofs.fs_list.keys_of.Given as goal

abbrev pub invariant-loop-id : goal.invariant-loop-id
invariant-loop-id l = l.list ++ firsts l.ids.entries ≡ firsts l.fn.ids.entries

abbrev pub decreases-loop-id : goal.decreases-loop-id
decreases-loop-id l = btree_map_len l.ids
