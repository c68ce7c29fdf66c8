-- What a scan tells, beside the index.
use Rattle.client_commands.proofs.WorktreeLemmas.{clean_so}
use Rattle.client_commands.proofs.worktrees.is_clean.Goals as goal

pub returns-in-Ok-is_changed-clause-value : goal.returns-in-Ok-is_changed-clause-value
returns-in-Ok-is_changed-clause-value g c = λ held told. (
  c.usual.result,
  record { least = c.usual.ensures.value.0; greatest = c.usual.ensures.value.1; shift = c.usual.ensures.value.2 },
  clean_so c.usual.result held c.in-Ok.report c.args.index.now c.in-Ok-is_changed.changed (c.in-Ok.ensures.value held told) c.in-Ok-is_changed.ensures.value,
)

pub returns-in-Err-clause-value : goal.returns-in-Err-clause-value
returns-in-Err-clause-value g c = λ held told. (
  c.usual.result,
  record { least = c.usual.ensures.value.0; greatest = c.usual.ensures.value.1; shift = c.usual.ensures.value.2 },
  c.in-Err.ensures.refused held told,
)

pub returns-clause-value : goal.returns-clause-value
returns-clause-value g c = λ held told. (
  c.usual.result,
  record { least = c.usual.ensures.value.0; greatest = c.usual.ensures.value.1; shift = c.usual.ensures.value.2 },
  tt,
)
