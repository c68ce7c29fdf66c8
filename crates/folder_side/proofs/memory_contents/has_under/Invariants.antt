use Rattle.std.proofs.Common.{◌≡◌}
use Rattle.std.specs.List.{list_any}
use Rattle.std.specs.FinMap as map
use Rattle.tree_model.specs.DirectorySurvival.{is_under}
use Rattle.folder_side.proofs.memory_contents.has_under.Given as goal

abbrev pub invariant-loop-path : goal.invariant-loop-path
invariant-loop-path l = list_any (λ entry. is_under l.dir entry.0) l.path-iterator ≡ list_any (λ entry. is_under l.dir entry.0) (map.entries l.paths)
