use Rattle.std.proofs.Common.{◌≡◌}
use Rattle.std.specs.FinMap as fin
use Rattle.tree_checkout.specs.Planning.{first_blocked_in}
use Rattle.tree_checkout.proofs.hidden.first_blocked.Given as goal

abbrev pub invariant-loop-path : goal.invariant-loop-path
invariant-loop-path l = first_blocked_in l.scan l.path-iterator ≡ first_blocked_in l.scan (fin.entries l.entries)
