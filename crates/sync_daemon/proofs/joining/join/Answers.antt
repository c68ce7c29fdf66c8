-- The head is asked for, and its commit got where the folder has something.
use Rattle.std.proofs.Common.{refl}
use Rattle.sync_daemon.proofs.ChangeLemmas.{joined_bare, joined_empty, joined_full, none_here}
use Rattle.sync_daemon.proofs.joining.join.Goals as goal

pub returns-then-not-has_seen-clause-value : goal.returns-then-not-has_seen-clause-value
returns-then-not-has_seen-clause-value g c =
    joined_bare c.args.asker.now c.args.index.now.base c.args.report.now (g.R.Remote.sends c.args.remote.now) (g.R.Remote.sends c.ask_head.new.remote) (g.R.Remote.sends c.ask_head.new.remote) c.in-Ok.head
    (none_here c.args.index.now.base c.is_some.result c.is_some.ensures c.if-is_some.false) c.in-Ok.ensures.value c.has_seen.result c.has_seen.ensures.value c.if-not-has_seen.true refl

pub returns-in-Ok-look_empty-clause-value : goal.returns-in-Ok-look_empty-clause-value
returns-in-Ok-look_empty-clause-value g c =
    joined_empty c.args.asker.now c.args.index.now.base c.args.report.now (g.R.Remote.sends c.args.remote.now) (g.R.Remote.sends c.ask_head.new.remote) (g.R.Remote.sends c.look_empty.new.remote) c.in-Ok.head
    (none_here c.args.index.now.base c.is_some.result c.is_some.ensures c.if-is_some.false) c.in-Ok.ensures.value c.has_seen.result c.has_seen.ensures.value c.if-not-has_seen.false c.in-Ok-look_empty.ensures.value

pub returns-in-Err-look_empty-clause-value : goal.returns-in-Err-look_empty-clause-value
returns-in-Err-look_empty-clause-value g c =
    joined_full c.args.asker.now c.args.index.now.base c.args.report.now (g.R.Remote.sends c.args.remote.now) (g.R.Remote.sends c.ask_head.new.remote) (g.R.Remote.sends c.look_empty.new.remote) c.in-Ok.head
    (none_here c.args.index.now.base c.is_some.result c.is_some.ensures c.if-is_some.false) c.in-Ok.ensures.value c.has_seen.result c.has_seen.ensures.value c.in-Err-look_empty.fault c.if-not-has_seen.false c.in-Err-look_empty.ensures.value
