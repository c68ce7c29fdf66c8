-- Two pushes, a limit, and a collection.
use Rattle.std.proofs.Common.{false, true}
use Rattle.sync_calls.specs.Hall.{shown_by}
use Rattle.generated_library.proofs.LedLemmas.{fill_led}
use Rattle.generated_library.proofs.StoppingLemmas.{ended_for, ends_for, push_ends}
use Rattle.generated_library.proofs.filling.fill.Goals as goal

pub returns-clause-leads : goal.returns-clause-leads
returns-clause-leads g c =
    let plan = c.args.plan.now in
    fill_led g.S.Shelf.contents g.S.Shelf.may_give g.S.Shelf.texts g.S.Shelf.faults (shown_by c.args.pass.now) (shown_by c.check.new.pass) (shown_by c.push.new.pass) (shown_by c.push-2.new.pass)
    (shown_by c.limit.new.pass) (shown_by c.collect.new.pass) (g.C.Clock.shows c.args.clock.now) plan.count plan.number c.now.result plan.head c.in_ok-before.before.commit
    c.in_ok-pushed.pushed.commit (record { paths = c.in_ok-pushed.pushed.paths; bytes = c.in_ok-pushed.pushed.bytes; removed = c.in_ok-removed.removed }) c.now.ensures.value
    c.in_ok-check.ensures.leads c.in_ok-before.ensures.leads c.in_ok-pushed.ensures.leads c.in_ok-limit.ensures.leads c.in_ok-removed.ensures.leads c.in_ok-pushed.ensures.paths
    c.in_ok-pushed.ensures.bytes

pub returns-clause-numbers : goal.returns-clause-numbers
returns-clause-numbers g c = (c.now.result, c.now.ensures.value, c.in_ok-pushed.ensures.paths, c.in_ok-pushed.ensures.bytes)

pub returns-clause-last : goal.returns-clause-last
returns-clause-last g c = c.in_ok-removed.ensures.last

pub returns-in_err-check-clause-stops : goal.returns-in_err-check-clause-stops
returns-in_err-check-clause-stops g c =
    ends_for g.S.Shelf.contents g.S.Shelf.may_give g.S.Shelf.texts g.S.Shelf.faults c.args.plan.now.lib c.args.plan.now.secret c.args.plan.now.count c.args.plan.now.number (g.C.Clock.shows c.args.clock.now) c.now.result c.now.ensures.value c.check.new.pass c.in_err-check.field-0.0 c.from_residual.result c.from_residual.ensures.1 c.in_err-check.ensures.stops

pub returns-in_err-before-clause-stops : goal.returns-in_err-before-clause-stops
returns-in_err-before-clause-stops g c =
    ended_for g.S.Shelf.contents g.S.Shelf.may_give g.S.Shelf.texts g.S.Shelf.faults c.args.plan.now.lib c.args.plan.now.secret c.args.plan.now.count c.args.plan.now.number (g.C.Clock.shows c.args.clock.now) c.push.new.pass c.in_err-before.field-0.0
    c.from_residual-in_err-before.result c.from_residual-in_err-before.ensures.1 (push_ends g.S.Shelf.contents g.S.Shelf.may_give g.S.Shelf.texts g.S.Shelf.faults c.args.plan.now.lib c.args.plan.now.secret c.args.plan.now.count c.args.plan.now.number (g.C.Clock.shows c.args.clock.now)
    c.now.result c.now.ensures.value c.push.new.pass false c.in_err-before.field-0.0 c.in_err-before.ensures.stops)

pub returns-in_err-pushed-clause-stops : goal.returns-in_err-pushed-clause-stops
returns-in_err-pushed-clause-stops g c =
    ended_for g.S.Shelf.contents g.S.Shelf.may_give g.S.Shelf.texts g.S.Shelf.faults c.args.plan.now.lib c.args.plan.now.secret c.args.plan.now.count c.args.plan.now.number (g.C.Clock.shows c.args.clock.now) c.push-2.new.pass c.in_err-pushed.field-0.0
    c.from_residual-in_err-pushed.result c.from_residual-in_err-pushed.ensures.1 (push_ends g.S.Shelf.contents g.S.Shelf.may_give g.S.Shelf.texts g.S.Shelf.faults c.args.plan.now.lib c.args.plan.now.secret c.args.plan.now.count c.args.plan.now.number (g.C.Clock.shows c.args.clock.now)
    c.now.result c.now.ensures.value c.push-2.new.pass true c.in_err-pushed.field-0.0 c.in_err-pushed.ensures.stops)

pub returns-in_err-limit-clause-stops : goal.returns-in_err-limit-clause-stops
returns-in_err-limit-clause-stops g c =
    ends_for g.S.Shelf.contents g.S.Shelf.may_give g.S.Shelf.texts g.S.Shelf.faults c.args.plan.now.lib c.args.plan.now.secret c.args.plan.now.count c.args.plan.now.number (g.C.Clock.shows c.args.clock.now) c.now.result c.now.ensures.value c.limit.new.pass c.in_err-limit.field-0.0 c.from_residual-in_err-limit.result c.from_residual-in_err-limit.ensures.1 c.in_err-limit.ensures.stops

pub returns-in_err-removed-clause-stops : goal.returns-in_err-removed-clause-stops
returns-in_err-removed-clause-stops g c =
    ended_for g.S.Shelf.contents g.S.Shelf.may_give g.S.Shelf.texts g.S.Shelf.faults c.args.plan.now.lib c.args.plan.now.secret c.args.plan.now.count c.args.plan.now.number (g.C.Clock.shows c.args.clock.now) c.collect.new.pass c.in_err-removed.field-0.0 c.from_residual-in_err-removed.result c.from_residual-in_err-removed.ensures.1 c.in_err-removed.ensures.stops
