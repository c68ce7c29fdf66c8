-- A complete commit can be read.
use Rattle.std.proofs.Common.{◌∙◌}
use Rattle.depot.proofs.UpdateMergeLemmas.{root_fault}
use Rattle.depot.proofs.update_merge.read_roots.Goals as goal

pub returns-in-Err-clause-value : goal.returns-in-Err-clause-value
returns-in-Err-clause-value g c = λ objects told are. root_fault objects c.args.base c.in-Err.fault are.base_complete (c.in-Err.ensures.value objects told)

pub returns-in-Err-root_at-clause-value : goal.returns-in-Err-root_at-clause-value
returns-in-Err-root_at-clause-value g c = λ objects told are.
    root_fault objects c.args.head c.in-Err-root_at.fault are.head_complete (c.in-Err-root_at.ensures.value objects (c.in-Ok.ensures.stays.kept.objects ∙ told))

pub returns-in-Err-root_at-2-clause-value : goal.returns-in-Err-root_at-2-clause-value
returns-in-Err-root_at-2-clause-value g c = λ objects told are.
    root_fault objects c.args.pushed c.in-Err-root_at-2.fault are.pushed_complete
    (c.in-Err-root_at-2.ensures.value objects (c.in-Ok-root_at.ensures.stays.kept.objects ∙ c.in-Ok.ensures.stays.kept.objects ∙ told))
