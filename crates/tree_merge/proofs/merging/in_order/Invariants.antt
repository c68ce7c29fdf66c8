use Rattle.std.proofs.Common.{◌≡◌, ◌++◌}
use Rattle.std.specs.FinMap as map
use Rattle.tree_merge.proofs.merging.in_order.Given as goal

abbrev pub invariant-loop-place : goal.invariant-loop-place
invariant-loop-place l = l.conflicts ++ map.values l.copies ≡ map.values l.initial.copies

abbrev pub decreases-loop-place : goal.decreases-loop-place
decreases-loop-place l = map.len l.copies
