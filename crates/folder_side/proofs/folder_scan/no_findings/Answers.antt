use Rattle.std.proofs.Common.{◌∙◌, ap}
use Rattle.std.specs.FinMap as map
use Rattle.tree_model.specs.Path.{path_cmp}
use Rattle.folder_side.specs.declared.scan_report.Seen.{Seen}
use Rattle.folder_side.proofs.ScanStepLemmas.{AreOf-empty}
use Rattle.folder_side.proofs.folder_scan.no_findings.Goals as goal

pub returns-clause-value : goal.returns-clause-value
returns-clause-value c = λ cuts c'. AreOf-empty cuts c' _ c.new.ensures.value c.new-2.ensures.value c.new-3.ensures.value

pub returns-clause-few : goal.returns-clause-few
returns-clause-few c = ap map.len c.new.ensures.value ∙ map.len-empty path_cmp Seen
