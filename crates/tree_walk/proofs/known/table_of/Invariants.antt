-- The table knows the keys so far.
use Rattle.std.proofs.Common.{take}
use Rattle.tree_walk.specs.Known.{Knows}
use Rattle.tree_walk.proofs.known.table_of.Given as goal

abbrev pub invariant-loop-key : goal.invariant-loop-key
invariant-loop-key l = Knows (take l.key-index l.keys) l.known
