use Rattle.std.proofs.Common.{sym, subst, ◌∙◌, ap, arith}
use Rattle.std.specs.FinMap as map
use Rattle.tree_model.specs.Path.{path_cmp}
use Rattle.folder_side.specs.declared.scan_report.Seen.{Seen}
use Rattle.folder_side.specs.Findings.{HasTaken}
use Rattle.folder_side.proofs.FindingsLemmas.{HasTaken-seen, note_past_limit}
use Rattle.folder_side.proofs.findings.note_seen.Goals as goal

pub returns-then-count-gt-MAX_PATHS-clause-value : goal.returns-then-count-gt-MAX_PATHS-clause-value
returns-then-count-gt-MAX_PATHS-clause-value c = λ cuts c' are is small.
    note_past_limit cuts c' c.args.found.now c.args.path c.args.seen are is c.requires.short small c.requires.few c.len-count.result
    (c.len-count.ensures.value ∙ ap map.len c.in-Ok.ensures.ok) (omega arith)

pub returns-clause-value : goal.returns-clause-value
returns-clause-value c = λ cuts c' are is small.
    subst (λ (m : map.FinMap path_cmp Seen). HasTaken cuts c' c.args.path c.args.found.now (record c.args.found.now { paths = m }))
    (sym c.in-Ok.ensures.ok) (HasTaken-seen cuts c' c.args.found.now c.args.path c.args.seen are is c.requires.short small)
