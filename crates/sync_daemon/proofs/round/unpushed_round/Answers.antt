-- The head is asked for, unless it was.
use Rattle.std.proofs.Common.{refl}
use Rattle.folder_side.proofs.CallLemmas.{glances_same}
use Rattle.sync_daemon.proofs.SettleLemmas.{unpushed_fails, unpushed_goes}
use Rattle.sync_daemon.proofs.round.unpushed_round.Goals as goal

pub returns-in-Ok-clause-value : goal.returns-in-Ok-clause-value
returns-in-Ok-clause-value g c = λ start before late is joined seen changed allowed.
    unpushed_goes c.args.asker.now c.args.user.now (g.C.Clock.shows c.args.clock.now) c.args.cuts (g.F.Folder.told c.args.folder.now) c.args.index.now start before late c.args.may c.args.report
    c.args.asked joined seen c.args.owns c.requires.ids c.args.differs changed allowed (g.R.Remote.sends c.args.remote.now) (g.R.Remote.sends c.head_of.new.remote) c.in-Ok.head
    c.now-moment.result is c.now-moment.ensures.value c.in-Ok.ensures.value

pub returns-in-Err-clause-value : goal.returns-in-Err-clause-value
returns-in-Err-clause-value g c = λ start before late is joined seen changed allowed.
    unpushed_fails c.args.asker.now c.args.user.now (g.C.Clock.shows c.args.clock.now) c.args.cuts (g.F.Folder.told c.args.folder.now) c.args.index.now start before late c.args.may c.args.report
    c.args.asked joined seen (g.R.Remote.sends c.args.remote.now) (g.R.Remote.sends c.head_of.new.remote) c.in-Err.fault is c.in-Err.ensures.value

pub returns-in-Ok-clause-traced : goal.returns-in-Ok-clause-traced
returns-in-Ok-clause-traced g c = glances_same _ _ refl

pub returns-in-Err-clause-traced : goal.returns-in-Err-clause-traced
returns-in-Err-clause-traced g c = glances_same _ _ refl
