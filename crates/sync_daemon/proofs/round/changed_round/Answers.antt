-- What changed is pushed.
use Rattle.std.proofs.Common.{Ok, true, subst, sym, refl}
use Rattle.folder_side.proofs.CallLemmas.{glances_same}
use Rattle.sync_daemon.specs.Rounds.{RoundSo, sync_of}
use Rattle.sync_daemon.specs.declared.round.Round.{Round}
use Rattle.sync_daemon.proofs.RoundEndLemmas.{joined_short, round_pushed, round_stopped}
use Rattle.sync_daemon.proofs.round.changed_round.Goals as goal

pub returns-in_default-clause-value : goal.returns-in_default-clause-value
returns-in_default-clause-value g c = λ start before late is joined seen changed.
    joined_short c.args.asker.now c.args.user.now (g.C.Clock.shows c.args.clock.now) c.args.cuts (g.F.Folder.told c.args.folder.now) c.args.index.now start before late true c.args.report
    c.args.asked joined seen (g.R.Remote.sends c.args.remote.now) is

pub returns-in-Ok-clause-value : goal.returns-in-Ok-clause-value
returns-in-Ok-clause-value g c = λ start before late is joined seen changed.
    subst
    (λ (came : Round).
    RoundSo (sync_of c.args.asker.now c.args.user.now (g.C.Clock.shows c.args.clock.now) c.args.cuts (g.F.Folder.told c.args.folder.now) c.args.index.now) start (g.R.Remote.sends c.push.new.remote)
    late (Ok came))
    (sym c.pushed_round.ensures.value)
    (round_pushed c.args.asker.now c.args.user.now (g.C.Clock.shows c.args.clock.now) c.args.cuts (g.F.Folder.told c.args.folder.now) c.args.index.now start before late c.args.report c.args.asked
    joined seen changed c.in-Some.parent c.in-Some.ensures.value.0 c.now-moment.result c.now-moment.ensures.value (g.R.Remote.sends c.args.remote.now) (g.R.Remote.sends c.push.new.remote) is c.push.ensures.needed c.args.owns c.requires.ids
    c.in-Ok.pushed c.in-Ok.ensures.value)

pub returns-in-Err-clause-value : goal.returns-in-Err-clause-value
returns-in-Err-clause-value g c = λ start before late is joined seen changed.
    round_stopped c.args.asker.now c.args.user.now (g.C.Clock.shows c.args.clock.now) c.args.cuts (g.F.Folder.told c.args.folder.now) c.args.index.now start before late c.args.report c.args.asked
    joined seen changed c.in-Some.parent c.in-Some.ensures.value.0 c.now-moment.result c.now-moment.ensures.value (g.R.Remote.sends c.args.remote.now) (g.R.Remote.sends c.push.new.remote) is c.push.ensures.needed c.in-Err.fault
    c.in-Err.ensures.value

pub returns-in_default-clause-traced : goal.returns-in_default-clause-traced
returns-in_default-clause-traced g c = glances_same _ _ refl
