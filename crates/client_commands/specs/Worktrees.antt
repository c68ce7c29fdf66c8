-- Whether a folder is as it was synced. Our own. Read ComparesSo.
use Rattle.std.specs.Prelude.{◌↔◌, Bool, IsTrue, Result, Ok, Err}
use Rattle.block_chunker.specs.declared.cuts.Cuts.{Cuts}
use Rattle.folder_side.specs.Folder.{Contents}
use Rattle.folder_side.specs.ScanReport.{IsPastLimit}
use Rattle.folder_side.specs.declared.error.ScanFault.{ScanFault}
use Rattle.local_index.specs.declared.index.Index.{Index}
use Rattle.sync_rules.specs.Offer.{Agrees, IsUsual}

-- clean exactly where at no path what the folder holds differs from what the index knows; a fault is true of the folder
abbrev pub ComparesBy : Cuts → Contents → Index → Result Bool ScanFault → Type 0
ComparesBy cuts c index (Ok clean) = IsTrue clean ↔ Agrees cuts c index
ComparesBy cuts c index (Err why) = IsPastLimit c why

-- by this project's chunks
abbrev pub ComparesSo : Contents → Index → Result Bool ScanFault → Type 0
ComparesSo c index result = (cuts : Cuts) × IsUsual cuts × ComparesBy cuts c index result
