use Rattle.std.proofs.Common.{◌≡◌, ◌++◌}
use Rattle.std.specs.FinMap as fin
use Rattle.std.specs.List.{flat_map}
use Rattle.tree_checkout.specs.Planning.{dues_at}
use Rattle.tree_checkout.proofs.planning.writes_of.Given as goal

abbrev pub invariant-loop-path : goal.invariant-loop-path
invariant-loop-path l = l.writes ++ flat_map (dues_at l.scan l.index l.pushed) l.path-iterator ≡ flat_map (dues_at l.scan l.index l.pushed) (fin.entries l.entries)
