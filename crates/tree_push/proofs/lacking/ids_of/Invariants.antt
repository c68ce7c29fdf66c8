use Rattle.std.proofs.Common.{◌≡◌, ◌++◌}
use Rattle.std.specs.FinMap as fin
use Rattle.tree_push.specs.Wanted.{ids_in}
use Rattle.tree_push.proofs.lacking.ids_of.Given as goal

abbrev pub invariant-loop-key : goal.invariant-loop-key
invariant-loop-key g l = l.ids ++ ids_in l.key-iterator ≡ ids_in (fin.entries l.table)
