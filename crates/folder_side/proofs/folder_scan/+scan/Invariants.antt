use Rattle.std.proofs.Common.{◌≡◌, ◌≤◌, ◌*◌, ◌-◌, suc, Some, length}
use Rattle.std.specs.FinMap as map
use Rattle.folder_side.specs.Calls.{Glances}
use Rattle.folder_side.specs.Folder.{Contents, IsFolder, items_in}
use Rattle.folder_side.specs.Findings.{AreOf}
use Rattle.folder_side.proofs.ScanStepLemmas.{Goes}
use Rattle.folder_side.proofs.folder_scan.+scan.Given as goal
use Rattle.tree_model.specs.declared.limits.TheConstants.{MAX_NAMES, MAX_PATHS}

abbrev pub decreases-scan_dir : goal.decreases-scan_dir
decreases-scan_dir g l = 2 * (suc MAX_NAMES - length l.dir.now)

abbrev pub decreases-scan_item : goal.decreases-scan_item
decreases-scan_item g l = 2 * (suc MAX_NAMES - length l.dir.now) - 1

abbrev pub invariant-scan_dir-loop-item : goal.invariant-scan_dir-loop-item
invariant-scan_dir-loop-item g l = record {
  told : g.F.Folder.told l.folder ≡ g.F.Folder.told l.fn.folder;
  spare : g.F.Folder.spare l.folder ≡ g.F.Folder.spare l.fn.folder;
  traced : Glances (g.F.Folder.trace l.fn.folder) (g.F.Folder.trace l.folder);
  faults : g.F.Folder.faults l.folder ≡ g.F.Folder.faults l.fn.folder;
  few : map.len l.found.paths ≤ MAX_PATHS;
  folder : (c : Contents) → g.F.Folder.told l.fn.folder ≡ Some c → IsFolder c;
  items : (c : Contents) → g.F.Folder.told l.fn.folder ≡ Some c → l.item-items ≡ items_in c l.dir;
  goes : (c : Contents) → g.F.Folder.told l.fn.folder ≡ Some c → AreOf l.cuts c l.fn.found → Goes l.cuts c l.dir l.item-items l.item-index l.fn.found l.found;
}
