-- What changed is pushed, or else the head is asked for.
use Rattle.std.proofs.Common.{sym, subst, ◌∙◌, refl}
use Rattle.folder_side.proofs.CallLemmas.{glances_same}
use Rattle.sync_daemon.specs.Rounds.{TellsChange}
use Rattle.sync_daemon.proofs.RoundEndLemmas.{joined_denied, joined_may, joined_short}
use Rattle.sync_daemon.proofs.round.joined_round.Goals as goal

pub returns-in-Err-clause-value : goal.returns-in-Err-clause-value
returns-in-Err-clause-value g c = λ start before late is joined seen.
    joined_short c.args.asker.now c.args.user.now (g.C.Clock.shows c.args.clock.now) c.args.cuts (g.F.Folder.told c.args.folder.now) c.args.index.now start before late c.args.may c.args.report
    c.args.asked joined seen (g.R.Remote.sends c.args.remote.now) is

pub returns-then-not-is_changed-clause-value : goal.returns-then-not-is_changed-clause-value
returns-then-not-is_changed-clause-value g c = λ start before late is joined seen.
    c.unpushed_round.ensures.value start before late is joined seen (subst (TellsChange c.args.report c.args.index.now) c.if-not-is_changed.true c.in-Ok.ensures.value) tt

pub returns-then-may-clause-value : goal.returns-then-may-clause-value
returns-then-may-clause-value g c = λ start before late is joined seen.
    c.changed_round.ensures.value start before late is
    (joined_may c.args.asker.now c.args.user.now (g.C.Clock.shows c.args.clock.now) c.args.cuts (g.F.Folder.told c.args.folder.now) c.args.index.now start before late c.args.may c.args.report
    c.args.asked joined seen c.if-may.true)
    seen (subst (TellsChange c.args.report c.args.index.now) c.if-not-is_changed.false c.in-Ok.ensures.value)

pub returns-then-is_some-clause-value : goal.returns-then-is_some-clause-value
returns-then-is_some-clause-value g c = λ start before late is joined seen.
    c.unpushed_round-then-is_some.ensures.value start before late is joined seen (subst (TellsChange c.args.report c.args.index.now) c.if-not-is_changed.false c.in-Ok.ensures.value)
    (c.if-may.false, sym c.is_some.ensures ∙ c.if-is_some.true)

pub returns-clause-value : goal.returns-clause-value
returns-clause-value g c = λ start before late is joined seen.
    joined_denied c.args.asker.now c.args.user.now (g.C.Clock.shows c.args.clock.now) c.args.cuts (g.F.Folder.told c.args.folder.now) c.args.index.now start before late c.args.may c.args.report
    c.args.asked joined seen (g.R.Remote.sends c.args.remote.now) is c.if-may.false (sym c.is_some.ensures ∙ c.if-is_some.false)
    (subst (TellsChange c.args.report c.args.index.now) c.if-not-is_changed.false c.in-Ok.ensures.value)

pub returns-in-Err-clause-traced : goal.returns-in-Err-clause-traced
returns-in-Err-clause-traced g c = glances_same _ _ refl

pub returns-clause-traced : goal.returns-clause-traced
returns-clause-traced g c = glances_same _ _ refl
