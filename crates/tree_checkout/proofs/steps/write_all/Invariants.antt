use Rattle.std.proofs.Common.{◌≡◌, Some, take}
use Rattle.std.specs.List.{AllByRecursion, IsDistinct}
use Rattle.std.specs.Ordering.{eq_by_cmp}
use Rattle.folder_side.specs.Folder.{Contents}
use Rattle.tree_model.specs.Path.{path_cmp}
use Rattle.tree_checkout.specs.Steps.{LooksUnwritten, WritesAll, paths_of}
use Rattle.tree_checkout.specs.Touches.{Touches}
use Rattle.tree_checkout.proofs.steps.write_all.Given as goal

abbrev pub invariant-loop-write : goal.invariant-loop-write
invariant-loop-write g l = record {
  found : (c : Contents) → g.F.Folder.told l.fn.folder ≡ Some c → IsDistinct (eq_by_cmp path_cmp) (paths_of l.writes)
      → AllByRecursion (LooksUnwritten l.cuts c l.scan) (take l.write-index l.writes);
  faults : g.F.Folder.faults l.folder ≡ g.F.Folder.faults l.fn.folder;
  touches : Touches l.cuts l.scan (g.F.Folder.trace l.fn.folder) (g.F.Folder.trace l.folder);
  peer : g.R.Remote.peer l.remote ≡ g.R.Remote.peer l.fn.remote;
  written : WritesAll l.source (take l.write-index l.writes) l.cuts (g.R.Remote.sends l.fn.remote) (g.R.Remote.sends l.remote)
      (g.F.Folder.told l.fn.folder) (g.F.Folder.told l.folder) l.fn.owns l.owns;
}
