use Rattle.std.proofs.Common.{◌≡◌, Some, map, take}
use Rattle.std.specs.List.{AllByRecursion, IsDistinct}
use Rattle.std.specs.Ordering.{eq_by_cmp}
use Rattle.folder_side.specs.Folder.{Contents}
use Rattle.sync_rules.specs.Checkout.{Step, run}
use Rattle.tree_model.specs.Path.{path_cmp}
use Rattle.tree_checkout.specs.SecondLook.{LooksFirst}
use Rattle.tree_checkout.specs.Touches.{Touches}
use Rattle.tree_checkout.proofs.steps.remove_all.Given as goal

abbrev pub invariant-loop-path : goal.invariant-loop-path
invariant-loop-path g l = record {
  told : (c : Contents) → g.F.Folder.told l.fn.folder ≡ Some c → g.F.Folder.told l.folder ≡ Some (run (map Step.Removed (take l.path-index l.doomed)) c);
  found : (c : Contents) → g.F.Folder.told l.fn.folder ≡ Some c → IsDistinct (eq_by_cmp path_cmp) l.doomed
      → AllByRecursion (LooksFirst l.cuts c l.scan) (take l.path-index l.doomed);
  faults : g.F.Folder.faults l.folder ≡ g.F.Folder.faults l.fn.folder;
  touches : Touches l.cuts l.scan (g.F.Folder.trace l.fn.folder) (g.F.Folder.trace l.folder);
}
