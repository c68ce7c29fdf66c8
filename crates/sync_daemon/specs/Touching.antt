-- What a sync does right before it touches a path. Our own. Read TouchesScanned. Read before: Touches of `tree_checkout`.
use Rattle.std.specs.Prelude.{◌≡◌, ◌⊎◌, List, Option, Some}
use Rattle.block_chunker.specs.declared.cuts.Cuts.{Cuts}
use Rattle.folder_side.specs.Calls.{Call, Glances}
use Rattle.folder_side.specs.Folder.{Contents}
use Rattle.folder_side.specs.ScanReport.{IsScan}
use Rattle.folder_side.specs.declared.scan_report.Scan.{Scan}
use Rattle.sync_rules.specs.Offer.{IsUsual}
use Rattle.tree_checkout.specs.Touches.{Touches}

-- just glances were made; or each touch was ready beside a scan, which saw what the folder held, where it tells that
abbrev pub TouchesBehind : Cuts → Option Contents → (old new : Option (List Call)) → Type 0
TouchesBehind cuts told old new =
    Glances old new ⊎ ((scan : Scan) × ((c : Contents) → told ≡ Some c → IsScan cuts c scan) × Touches cuts scan old new)

-- by this project's chunks, whatever the sync came to
pub record TouchesScanned (told : Option Contents) (old new : Option (List Call)) : Type 0 where
  pub cuts : Cuts
  pub usual : IsUsual cuts
  pub behind : TouchesBehind cuts told old new
