use Rattle.std.specs.FinMap as map
use Rattle.tree_merge.specs.TreeBuilding.{AreNamed}
use Rattle.tree_merge.proofs.AddedLemmas.{AddsSo}
use Rattle.tree_merge.proofs.work.add_made.Given as goal

abbrev pub invariant-loop-key : goal.invariant-loop-key
invariant-loop-key l = record {
  names : AreNamed l.more;
  named : AreNamed l.initial.made → AreNamed l.made;
  adds : AddsSo l.initial.made l.initial.more l.more l.made;
}

abbrev pub decreases-loop-key : goal.decreases-loop-key
decreases-loop-key l = map.len l.more
