use Rattle.std.proofs.Common.{◌≡◌, ◌||◌, take}
use Rattle.std.specs.List.{list_any}
use Rattle.tree_model.specs.DirectorySurvival.{is_within}
use Rattle.tree_model.specs.Path.{PathV}
use Rattle.tree_checkout.specs.Hindrances.{HasAbove, has}
use Rattle.tree_checkout.proofs.hindrances.add_all_within.Given as goal

abbrev pub invariant-loop-dir : goal.invariant-loop-dir
invariant-loop-dir l = record {
  added : (q : PathV) → has l.table q ≡ (has l.fn.table q || list_any (is_within q) (take l.dir-index l.dirs));
  above : HasAbove l.table;
}
