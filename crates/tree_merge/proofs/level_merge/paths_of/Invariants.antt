-- The directories so far are counted.
use Rattle.std.specs.FinMap as map
use Rattle.tree_merge.proofs.KeptPathLemmas.{CountsSo}
use Rattle.tree_merge.proofs.level_merge.paths_of.Given as goal

abbrev pub invariant-loop-own : goal.invariant-loop-own
invariant-loop-own l = CountsSo (map.entries l.kept) l.own-iterator l.paths
