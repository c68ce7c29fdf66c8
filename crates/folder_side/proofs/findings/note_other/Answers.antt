use Rattle.std.proofs.Common.{refl}
use Rattle.folder_side.proofs.FindingsLemmas.{HasTaken-other}
use Rattle.folder_side.proofs.ScanStepLemmas.{is_some-insert}
use Rattle.folder_side.proofs.findings.note_other.Goals as goal

pub returns-in-Ok-clause-value : goal.returns-in-Ok-clause-value
returns-in-Ok-clause-value c = λ cuts c' are is.
    HasTaken-other cuts c' c.args.found.now c.args.path (record c.args.found.now { skipped = c.insert.new.self }) are is refl refl
    (is_some-insert c.args.found.now.skipped c.insert.new.self c.args.path _ c.in-Ok.ensures.ok)
