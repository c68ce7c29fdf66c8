use Rattle.std.proofs.Common.{subst}
use Rattle.tree_model.specs.Path.{PathV}
use Rattle.folder_side.specs.Findings.{HasScanned}
use Rattle.folder_side.proofs.FindingsLemmas.{IsScan-of, IsWithinLimits-of}
use Rattle.folder_side.proofs.folder_scan.scan.Goals as goal

pub returns-in-Ok-report-clause-value : goal.returns-in-Ok-report-clause-value
returns-in-Ok-report-clause-value g c = λ c' told.
    let done = c.in-Ok-scan_dir.ensures.value c' told (c.no_findings-found.ensures.value c.args.cuts c') in
    let whole = subst (λ (root : PathV). HasScanned c.args.cuts c' root c.no_findings-found.result c.scan_dir.new.found) c.root-root.ensures.value done.1 in
    IsScan-of c.args.cuts c' done.0 c.no_findings-found.result c.scan_dir.new.found whole c.in-Ok-report.scan c.in-Ok-report.ensures.value

pub returns-in-Ok-report-clause-bound : goal.returns-in-Ok-report-clause-bound
returns-in-Ok-report-clause-bound g c = λ c' told.
    let done = c.in-Ok-scan_dir.ensures.value c' told (c.no_findings-found.ensures.value c.args.cuts c') in
    let whole = subst (λ (root : PathV). HasScanned c.args.cuts c' root c.no_findings-found.result c.scan_dir.new.found) c.root-root.ensures.value done.1 in
    IsWithinLimits-of c.args.cuts c' done.0 c.no_findings-found.result c.scan_dir.new.found whole c.in-Ok-scan_dir.ensures.few

pub returns-in-Ok-report-clause-formed : goal.returns-in-Ok-report-clause-formed
returns-in-Ok-report-clause-formed g c = λ c' told. (c.in-Ok-scan_dir.ensures.value c' told (c.no_findings-found.ensures.value c.args.cuts c')).0
