use Rattle.std.proofs.Common.{◌≡◌, ◌||◌, take}
use Rattle.std.specs.List.{list_any}
use Rattle.tree_model.specs.DirectorySurvival.{is_under}
use Rattle.tree_model.specs.Path.{PathV}
use Rattle.tree_checkout.specs.Hindrances.{HasAbove, has}
use Rattle.tree_checkout.proofs.hindrances.add_all_above.Given as goal

abbrev pub invariant-loop-path : goal.invariant-loop-path
invariant-loop-path l = record {
  added : (q : PathV) → has l.table q ≡ (has l.fn.table q || list_any (is_under q) (take l.path-index l.paths));
  above : HasAbove l.table;
}
