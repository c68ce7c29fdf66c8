-- What is known of the keys so far.
use Rattle.std.proofs.Common.{take}
use Rattle.tree_walk.specs.KnownTrees.{extent_known}
use Rattle.tree_walk.proofs.KeptTreesLemmas.{IsAmong}
use Rattle.tree_walk.proofs.known_trees.Known.directories_among.Given as goal

abbrev pub invariant-loop-key : goal.invariant-loop-key
invariant-loop-key l = IsAmong (extent_known l.self) (take l.key-index l.keys) l.among
