use Rattle.std.proofs.Common.{◌≡◌, ◌++◌, map as map_list}
use Rattle.std.specs.FinMap as map
use Rattle.folder_side.proofs.findings.paths_of.Given as goal

abbrev pub invariant-loop-path : goal.invariant-loop-path
invariant-loop-path l = l.paths ++ map_list (λ e. e.0) l.path-iterator ≡ map.keys l.table
