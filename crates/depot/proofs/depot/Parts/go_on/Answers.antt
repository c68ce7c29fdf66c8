-- The step that is due.
use Rattle.std.proofs.Common.{[], sym, ◌∙◌}
use Rattle.collector.proofs.GoesOnLemmas.{clean}
use Rattle.depot.proofs.OpenedTurnLemmas.{behind, mark_opens, none_gone, sweep_opens}
use Rattle.depot.proofs.SweepTurnLemmas.{sweep_stands, sweep_turn}
use Rattle.depot.proofs.TakesTurnLemmas.{collects_at, ends_takes, library_at, mark_stands, mark_turn, marking_due, none_left, over_due, sweeping_due}
use Rattle.depot.proofs.depot.Parts.go_on.Goals as goal

pub mark_some-requires : goal.mark_some-requires
mark_some-requires g c = record { some = (c.requires.some, marking_due c.args.running.now.marks (sym c.phase.ensures.value ∙ c.in-Marking.is)) }

pub sweep_some-requires : goal.sweep_some-requires
sweep_some-requires g c = record {
  some = (c.requires.some, (sweeping_due c.args.running.now.marks (sym c.phase.ensures.value ∙ c.in-Sweeping.is)).0);
  stored = c.requires.good.candidates;
}

pub returns-in-Marking-clause-value : goal.returns-in-Marking-clause-value
returns-in-Marking-clause-value g c = λ goal moment aimed.
    mark_turn g.S.Shelf.contents g.S.Shelf.may_give g.S.Shelf.texts g.S.Shelf.faults c.args.self.now.store c.mark_some.new.self.store c.args.self.now.state c.args.self.now.unsettled c.args.running.now
    c.mark_some.new.running c.args.known.now c.requires.good goal moment c.args.at_most c.mark_some.result c.mark_some.new.self.state c.mark_some.new.self.unsettled aimed
    (marking_due c.args.running.now.marks (sym c.phase.ensures.value ∙ c.in-Marking.is)) c.mark_some.ensures.value c.mark_some.ensures.stays.0 c.mark_some.ensures.stays.1

pub returns-in-Marking-clause-stands : goal.returns-in-Marking-clause-stands
returns-in-Marking-clause-stands g c =
    mark_stands g.S.Shelf.contents g.S.Shelf.may_give g.S.Shelf.texts g.S.Shelf.faults c.args.self.now.store c.mark_some.new.self.store c.args.self.now.state c.args.self.now.unsettled c.args.running.now
    c.mark_some.new.running c.args.known.now c.requires.good c.args.at_most c.mark_some.result c.mark_some.new.self.state c.mark_some.new.self.unsettled c.mark_some.ensures.value
    c.mark_some.ensures.stays.0 c.mark_some.ensures.stays.1

pub returns-in-Sweeping-clause-value : goal.returns-in-Sweeping-clause-value
returns-in-Sweeping-clause-value g c = λ goal moment aimed.
    let due = sweeping_due c.args.running.now.marks (sym c.phase.ensures.value ∙ c.in-Sweeping.is) in
    sweep_turn g.S.Shelf.contents g.S.Shelf.may_give g.S.Shelf.texts g.S.Shelf.faults c.args.self.now.store c.sweep_some.new.self.store c.args.self.now.state c.args.self.now.unsettled
    c.sweep_some.new.self.unsettled c.args.running.now c.sweep_some.new.running c.args.known.now c.requires.good due.0 goal moment c.args.at_most c.sweep_some.result c.sweep_some.new.self.state aimed
    c.requires.some due.1 c.sweep_some.ensures.value c.sweep_some.ensures.stays c.sweep_some.ensures.gives (c.sweep_some.ensures.text moment) c.sweep_some.ensures.settled

pub returns-in-Sweeping-clause-stands : goal.returns-in-Sweeping-clause-stands
returns-in-Sweeping-clause-stands g c =
    let due = sweeping_due c.args.running.now.marks (sym c.phase.ensures.value ∙ c.in-Sweeping.is) in
    sweep_stands g.S.Shelf.contents g.S.Shelf.may_give g.S.Shelf.texts g.S.Shelf.faults c.args.self.now.store c.sweep_some.new.self.store c.args.self.now.state c.args.self.now.unsettled
    c.sweep_some.new.self.unsettled c.args.running.now c.sweep_some.new.running c.args.known.now c.requires.good due.0 c.args.at_most c.sweep_some.result c.sweep_some.new.self.state
    c.sweep_some.new.known c.requires.some due.1 c.sweep_some.ensures.value c.sweep_some.ensures.stays c.sweep_some.ensures.gives c.sweep_some.ensures.text c.sweep_some.ensures.settled
    c.sweep_some.ensures.known

pub returns-in-Over-clause-value : goal.returns-in-Over-clause-value
returns-in-Over-clause-value g c = λ goal moment aimed.
    let due = over_due c.args.running.now.marks (sym c.phase.ensures.value ∙ c.in-Over.is) in
    ends_takes g.S.Shelf.contents g.S.Shelf.may_give g.S.Shelf.texts g.S.Shelf.faults c.args.self.now.store c.args.self.now.store c.args.self.now.state c.args.self.now.unsettled c.args.running.now
    c.args.running.now c.args.known.now c.requires.good goal moment c.args.at_most aimed
    (λ objects told.
    clean (library_at g.S.Shelf.contents g.S.Shelf.may_give g.S.Shelf.texts g.S.Shelf.faults c.args.self.now.store c.args.self.now.store c.args.self.now.state c.args.self.now.unsettled c.args.running.now
    c.args.running.now c.args.known.now c.requires.good objects) c.args.running.now.running c.args.running.now.marks
    (collects_at g.S.Shelf.contents g.S.Shelf.may_give g.S.Shelf.texts g.S.Shelf.faults c.args.self.now.store c.args.self.now.store c.args.self.now.state c.args.self.now.unsettled c.args.running.now
    c.args.running.now c.args.known.now c.requires.good objects told) (none_left c.args.running.now.marks due.1))

pub returns-in-Over-clause-stands : goal.returns-in-Over-clause-stands
returns-in-Over-clause-stands g c = c.requires.good

-- ---- what was opened

pub returns-in-Marking-clause-opened : goal.returns-in-Marking-clause-opened
returns-in-Marking-clause-opened g c =
    mark_opens g.S.Shelf.contents g.S.Shelf.may_give g.S.Shelf.texts g.S.Shelf.faults c.args.self.now.store c.mark_some.new.self.store c.args.self.now.state c.args.self.now.unsettled c.args.running.now c.mark_some.new.running
    c.args.known.now c.requires.good c.args.at_most c.mark_some.result c.mark_some.ensures.value

pub returns-in-Sweeping-clause-opened : goal.returns-in-Sweeping-clause-opened
returns-in-Sweeping-clause-opened g c =
    sweep_opens g.S.Shelf.contents g.S.Shelf.may_give g.S.Shelf.texts g.S.Shelf.faults c.args.self.now.store c.sweep_some.new.self.store c.args.self.now.state c.args.self.now.unsettled c.args.running.now c.sweep_some.new.running
    c.args.at_most c.sweep_some.result c.phase.ensures.good c.phase.ensures.read (sweeping_due c.args.running.now.marks (sym c.phase.ensures.value ∙ c.in-Sweeping.is)).0 c.sweep_some.ensures.value

pub returns-in-Over-clause-opened : goal.returns-in-Over-clause-opened
returns-in-Over-clause-opened g c =
    behind c.args.running.now.marks [] c.phase.ensures.good c.phase.ensures.read (over_due c.args.running.now.marks (sym c.phase.ensures.value ∙ c.in-Over.is)).0 (none_gone c.args.running.now.marks)
