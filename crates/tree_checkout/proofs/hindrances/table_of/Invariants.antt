use Rattle.std.proofs.Common.{take}
use Rattle.tree_checkout.specs.Hindrances.{IsTableOf}
use Rattle.tree_checkout.proofs.hindrances.table_of.Given as goal

abbrev pub invariant-loop-path : goal.invariant-loop-path
invariant-loop-path l = IsTableOf l.table (take l.path-index l.paths)
