-- The collection was told done.
use Rattle.std.proofs.Common.{Some}
use Rattle.sync_calls.specs.Hall.{drawn_by, shown_by}
use Rattle.generated_library.proofs.CollectLemmas.{collect_leads}
use Rattle.generated_library.proofs.ReadyLemmas.{ready_books}
use Rattle.generated_library.proofs.StoppingLemmas.{not_collected, was_collected}
use Rattle.generated_library.proofs.filling.collect.Goals as goal

pub returns-in-Done-clause-leads : goal.returns-in-Done-clause-leads
returns-in-Done-clause-leads g c =
    let told = c.collect.ensures.told in
    collect_leads g.S.Shelf.contents g.S.Shelf.may_give g.S.Shelf.texts g.S.Shelf.faults (g.C.Clock.shows c.args.clock.now) (shown_by c.args.pass.now) (shown_by c.collect.new.pass) c.args.plan.now.lib (Some c.args.plan.now.secret)
    c.collect.result told.0 (drawn_by c.collect.new.pass) _ _ _ (ready_books g.S.Shelf.contents g.S.Shelf.may_give g.S.Shelf.texts g.S.Shelf.faults c.args.hall.now c.args.pass.now c.requires.ready) told.1 c.in-Done.is

pub returns-in-Done-clause-last : goal.returns-in-Done-clause-last
returns-in-Done-clause-last g c =
    was_collected g.S.Shelf.contents g.S.Shelf.may_give g.S.Shelf.texts g.S.Shelf.faults c.args.plan.now.lib c.args.plan.now.secret c.args.plan.now.count c.args.plan.now.number (g.C.Clock.shows c.args.clock.now) (shown_by c.args.pass.now) c.collect.new.pass
    _ _ _ c.collect.result c.in-Done.is c.collect.ensures.told

pub returns-in-Refused-clause-stops : goal.returns-in-Refused-clause-stops
returns-in-Refused-clause-stops g c =
    not_collected g.S.Shelf.contents g.S.Shelf.may_give g.S.Shelf.texts g.S.Shelf.faults c.args.plan.now.lib c.args.plan.now.secret c.args.plan.now.count c.args.plan.now.number (g.C.Clock.shows c.args.clock.now) (shown_by c.args.pass.now) c.collect.new.pass c.in-Refused.why c.collect.result c.in-Refused.is c.collect.ensures.told
