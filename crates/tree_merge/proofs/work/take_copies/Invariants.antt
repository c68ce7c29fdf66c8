-- What would be told of the rest, over what is told, is what is to be told.
use Rattle.std.proofs.Common.{◌≡◌}
use Rattle.std.specs.FinMap as map
use Rattle.tree_model.specs.Path.{PathV}
use Rattle.tree_merge.specs.WorkSoFar.{copies_over}
use Rattle.tree_merge.proofs.work.take_copies.Given as goal

abbrev pub invariant-loop-left : goal.invariant-loop-left
invariant-loop-left l = (q : PathV) → copies_over l.dir l.copies l.told q ≡ copies_over l.dir l.initial.copies l.initial.told q

abbrev pub decreases-loop-left : goal.decreases-loop-left
decreases-loop-left l = map.len l.copies
