use Rattle.std.proofs.Common.{◌≡◌, ◌++◌}
use Rattle.std.specs.FinMap as fin
use Rattle.std.specs.List.{filter_map}
use Rattle.tree_checkout.specs.Planning.{held_path}
use Rattle.tree_checkout.proofs.planning.held_of.Given as goal

abbrev pub invariant-loop-path : goal.invariant-loop-path
invariant-loop-path l = l.held ++ filter_map (held_path l.scan l.entries) l.path-iterator ≡ filter_map (held_path l.scan l.entries) (fin.entries l.scan.paths)
