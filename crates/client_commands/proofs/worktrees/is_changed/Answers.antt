-- Something was changed where the list of changes has one.
use Rattle.sync_daemon.proofs.ChangeLemmas.{tells_change}
use Rattle.client_commands.proofs.worktrees.is_changed.Goals as goal

pub returns : goal.returns
returns c = record { value = tells_change c.is_empty.result c.in_ok-changes.changes c.args.report.now c.args.index.now c.is_empty.ensures.value c.in_ok-changes.ensures.value }
