-- Whether one may upload is asked first.
use Rattle.std.proofs.Common.{refl}
use Rattle.folder_side.proofs.CallLemmas.{glances_same}
use Rattle.sync_daemon.proofs.CheckLemmas.{checks_fail, checks_go}
use Rattle.sync_daemon.proofs.round.one_round.Goals as goal

pub returns-in-Err-clause-value : goal.returns-in-Err-clause-value
returns-in-Err-clause-value g c = λ start before late is going few spares.
    checks_fail c.args.asker.now c.args.user.now (g.C.Clock.shows c.args.clock.now) c.args.cuts (g.F.Folder.told c.args.folder.now) c.args.index.now start before late going few
    (g.R.Remote.sends c.args.remote.now) (g.R.Remote.sends c.may_upload.new.remote) c.in-Err.fault is c.in-Err.ensures.value

pub returns-clause-value : goal.returns-clause-value
returns-clause-value g c = λ start before late is going few spares.
    let went =
    checks_go c.args.asker.now c.args.user.now (g.C.Clock.shows c.args.clock.now) c.args.cuts (g.F.Folder.told c.args.folder.now) c.args.index.now start before late going few
    (g.R.Remote.sends c.args.remote.now) (g.R.Remote.sends c.may_upload.new.remote) c.in-Ok.may is spares c.in-Ok.ensures.value in
    c.checked_round.ensures.value start went.0 late went.1 went.2

pub returns-in-Err-clause-traced : goal.returns-in-Err-clause-traced
returns-in-Err-clause-traced g c = glances_same _ _ refl
