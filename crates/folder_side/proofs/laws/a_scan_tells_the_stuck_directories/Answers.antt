use Rattle.folder_side.proofs.VisibleTreeLemmas.{stuck-told}
use Rattle.folder_side.proofs.laws.a_scan_tells_the_stuck_directories.Goals as goal

pub returns : goal.returns
returns c = record { value = stuck-told }
