use Rattle.std.proofs.Common.{◌≡◌, ◌+◌, ◌-◌, ◌≤◌, length, drop, nat_cmp}
use Rattle.std.specs.Cmp.Lexicographic.{slice_cmp}
use Rattle.tree_model.specs.Path.{slashed}
use Rattle.tree_model.proofs.path.compare_pieces.Given as goal

abbrev pub invariant-loop-a : goal.invariant-loop-a
invariant-loop-a l = record {
  within : l.place ≤ length l.left + 1;
  rest : slice_cmp nat_cmp (slashed l.left l.left_more) (slashed l.right l.right_more)
      ≡ slice_cmp nat_cmp (drop l.place (slashed l.left l.left_more)) (drop l.place (slashed l.right l.right_more));
}

abbrev pub decreases-loop-a : goal.decreases-loop-a
decreases-loop-a l = length l.left + 1 - l.place
