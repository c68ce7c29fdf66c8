use Rattle.folder_side.proofs.CallLemmas.{whole_glances}
use Rattle.folder_side.proofs.folder_scan.scan_file.Goals as goal

pub returns-in-Ok-clause-traced : goal.returns-in-Ok-clause-traced
returns-in-Ok-clause-traced g c = whole_glances _ _ _ _ c.in-Ok.ensures.traced.1
