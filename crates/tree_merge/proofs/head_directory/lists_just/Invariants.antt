use Rattle.std.specs.FinMap as map
use Rattle.tree_merge.proofs.HeadDirectoryLemmas.{JustSo}
use Rattle.tree_merge.proofs.head_directory.lists_just.Given as goal

abbrev pub invariant-loop-path : goal.invariant-loop-path
invariant-loop-path l = JustSo l.initial.listed l.nodes l.kept l.listed

abbrev pub decreases-loop-path : goal.decreases-loop-path
decreases-loop-path l = map.len l.listed
