use Rattle.std.proofs.Common.{refl}
use Rattle.folder_side.proofs.FindingsLemmas.{Grows-nameless}
use Rattle.folder_side.proofs.ScanStepLemmas.{is_some-insert}
use Rattle.folder_side.proofs.findings.note_nameless.Goals as goal

pub returns-in-Ok-clause-value : goal.returns-in-Ok-clause-value
returns-in-Ok-clause-value c = λ cuts c' are is.
    Grows-nameless cuts c' c.args.found.now c.args.dir (record c.args.found.now { nameless = c.insert.new.self }) are is refl refl
    (is_some-insert c.args.found.now.nameless c.insert.new.self c.args.dir _ c.in-Ok.ensures.ok)
