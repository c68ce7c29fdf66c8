use Rattle.std.proofs.Common.{length}
use Rattle.tree_merge.proofs.LevelLemmas.{TellsSo}
use Rattle.tree_merge.proofs.level.by_path.Given as goal

abbrev pub invariant-loop-entry : goal.invariant-loop-entry
invariant-loop-entry l = TellsSo l.path l.initial.entries.items l.entries.items l.table

abbrev pub decreases-loop-entry : goal.decreases-loop-entry
decreases-loop-entry l = length l.entries.items
