-- Where the index has no base, the head is asked for.
use Rattle.std.proofs.Common.{refl}
use Rattle.folder_side.proofs.CallLemmas.{glances_same}
use Rattle.sync_daemon.proofs.RoundLemmas.{join_fails, join_goes}
use Rattle.sync_daemon.proofs.round.scanned_round.Goals as goal

pub returns-in-Err-clause-value : goal.returns-in-Err-clause-value
returns-in-Err-clause-value g c = λ start before late is checked seen.
    join_fails c.args.asker.now c.args.user.now (g.C.Clock.shows c.args.clock.now) c.args.cuts (g.F.Folder.told c.args.folder.now) c.args.index.now start before late c.args.may c.args.report seen
    checked (g.R.Remote.sends c.args.remote.now) (g.R.Remote.sends c.join.new.remote) c.in-Err.fault is c.in-Err.ensures.value

pub returns-clause-value : goal.returns-clause-value
returns-clause-value g c = λ start before late is checked seen.
    let went =
    join_goes c.args.asker.now c.args.user.now (g.C.Clock.shows c.args.clock.now) c.args.cuts (g.F.Folder.told c.args.folder.now) c.args.index.now start before late c.args.may c.args.report seen
    checked (g.R.Remote.sends c.args.remote.now) (g.R.Remote.sends c.join.new.remote) c.in-Ok.asked is c.in-Ok.ensures.value in
    c.joined_round.ensures.value start went.0 late went.1 went.2 seen

pub returns-in-Err-clause-traced : goal.returns-in-Err-clause-traced
returns-in-Err-clause-traced g c = glances_same _ _ refl
