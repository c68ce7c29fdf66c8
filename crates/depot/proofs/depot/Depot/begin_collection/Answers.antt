-- None begins where the last number was given; else one does, or the write failed.
use Rattle.std.proofs.Common.{arith}
use Rattle.depot.proofs.ClosingLemmas.{begins_idle, begins_idle_kept, spent_idle, stops_idle, stops_idle_kept}
use Rattle.depot.proofs.depot.Depot.begin_collection.Goals as goal

pub begin_collection-requires : goal.begin_collection-requires
begin_collection-requires g c = record { fits = omega (arith, c.if-self-ge-LAST.false) }

pub returns-then-self-ge-LAST-clause-value : goal.returns-then-self-ge-LAST-clause-value
returns-then-self-ge-LAST-clause-value g c = λ at_most.
    spent_idle g.S.Shelf.contents g.S.Shelf.may_give g.S.Shelf.texts g.S.Shelf.faults c.self.inside.parts.store c.self.inside.parts.state c.self.inside.parts.unsettled c.self.inside.known c.self.inside.running c.self.invariant c.args.self.now c.self.view_is c.requires.idle c.args.moment at_most c.new.result c.new.ensures.value
    (omega (arith, c.if-self-ge-LAST.true))

pub returns-in-Ok-clause-value : goal.returns-in-Ok-clause-value
returns-in-Ok-clause-value g c = λ at_most.
    begins_idle g.S.Shelf.contents g.S.Shelf.may_give g.S.Shelf.texts g.S.Shelf.faults c.self.inside.parts.store c.self.inside.parts.state c.self.inside.parts.unsettled c.self.inside.known c.self.inside.running c.self.invariant c.args.self.now c.self.view_is c.requires.idle c.begin_collection.new.self.store c.begin_collection.new.self.state c.begin_collection.new.self.unsettled c.args.moment
    (omega (arith, c.if-self-ge-LAST.false)) c.in-Ok.ensures.stays c.in-Ok.ensures.held c.in-Ok.ensures.lying c.in-Ok.ensures.gives at_most c.in-Ok.running c.in-Ok.ensures.value
    (λ objects told. c.in-Ok.ensures.shown objects told) c.in-Ok.ensures.ok c.in-Ok.ensures.faults

pub invariant_of-self : goal.invariant_of-self
invariant_of-self g c =
    begins_idle_kept g.S.Shelf.contents g.S.Shelf.may_give g.S.Shelf.texts g.S.Shelf.faults c.self.inside.parts.store c.self.inside.parts.state c.self.inside.parts.unsettled c.self.inside.known c.self.inside.running c.self.invariant c.args.self.now c.self.view_is c.requires.idle c.begin_collection.new.self.store c.begin_collection.new.self.state c.begin_collection.new.self.unsettled c.args.moment
    (omega (arith, c.if-self-ge-LAST.false)) c.in-Ok.ensures.stays c.in-Ok.ensures.held c.in-Ok.ensures.lying c.in-Ok.ensures.gives c.in-Ok.running c.in-Ok.ensures.value
    (λ objects told. c.in-Ok.ensures.shown objects told) c.in-Ok.ensures.ok c.in-Ok.ensures.faults

pub returns-in-Ok-clause-stands : goal.returns-in-Ok-clause-stands
returns-in-Ok-clause-stands g c =
    (begins_idle_kept g.S.Shelf.contents g.S.Shelf.may_give g.S.Shelf.texts g.S.Shelf.faults c.self.inside.parts.store c.self.inside.parts.state c.self.inside.parts.unsettled c.self.inside.known c.self.inside.running c.self.invariant c.args.self.now c.self.view_is c.requires.idle c.begin_collection.new.self.store c.begin_collection.new.self.state c.begin_collection.new.self.unsettled c.args.moment
    (omega (arith, c.if-self-ge-LAST.false)) c.in-Ok.ensures.stays c.in-Ok.ensures.held c.in-Ok.ensures.lying c.in-Ok.ensures.gives c.in-Ok.running c.in-Ok.ensures.value
    (λ objects told. c.in-Ok.ensures.shown objects told) c.in-Ok.ensures.ok c.in-Ok.ensures.faults).good

pub returns-in-Err-clause-value : goal.returns-in-Err-clause-value
returns-in-Err-clause-value g c = λ at_most.
    stops_idle g.S.Shelf.contents g.S.Shelf.may_give g.S.Shelf.texts g.S.Shelf.faults c.self.inside.parts.store c.self.inside.parts.state c.self.inside.parts.unsettled c.self.inside.known c.self.inside.running c.self.invariant c.args.self.now c.self.view_is c.requires.idle c.begin_collection.new.self.store c.begin_collection.new.self.state c.begin_collection.new.self.unsettled c.args.moment
    (omega (arith, c.if-self-ge-LAST.false)) c.in-Err.ensures.stays c.in-Err.ensures.held c.in-Err.ensures.lying c.in-Err.ensures.gives at_most c.in-Err.fault c.store_refusal.result c.new-in-Err.result
    c.store_refusal.ensures.value c.new-in-Err.ensures.value c.in-Err.ensures.err c.in-Err.ensures.text c.in-Err.ensures.faults

pub invariant_of-self-in-Err : goal.invariant_of-self-in-Err
invariant_of-self-in-Err g c =
    stops_idle_kept g.S.Shelf.contents g.S.Shelf.may_give g.S.Shelf.texts g.S.Shelf.faults c.self.inside.parts.store c.self.inside.parts.state c.self.inside.parts.unsettled c.self.inside.known c.self.inside.running c.self.invariant c.args.self.now c.self.view_is c.requires.idle c.begin_collection.new.self.store c.begin_collection.new.self.state c.begin_collection.new.self.unsettled c.args.moment
    (omega (arith, c.if-self-ge-LAST.false)) c.in-Err.ensures.stays c.in-Err.ensures.held c.in-Err.ensures.lying c.in-Err.ensures.gives c.in-Err.fault c.in-Err.ensures.err c.in-Err.ensures.text

pub returns-in-Err-clause-stands : goal.returns-in-Err-clause-stands
returns-in-Err-clause-stands g c =
    (stops_idle_kept g.S.Shelf.contents g.S.Shelf.may_give g.S.Shelf.texts g.S.Shelf.faults c.self.inside.parts.store c.self.inside.parts.state c.self.inside.parts.unsettled c.self.inside.known c.self.inside.running c.self.invariant c.args.self.now c.self.view_is c.requires.idle c.begin_collection.new.self.store c.begin_collection.new.self.state c.begin_collection.new.self.unsettled c.args.moment
    (omega (arith, c.if-self-ge-LAST.false)) c.in-Err.ensures.stays c.in-Err.ensures.held c.in-Err.ensures.lying c.in-Err.ensures.gives c.in-Err.fault c.in-Err.ensures.err c.in-Err.ensures.text).good

-- no key leaves
pub returns-then-self-ge-LAST-clause-opened : goal.returns-then-self-ge-LAST-clause-opened
returns-then-self-ge-LAST-clause-opened g c = λ some. absurd (some c.new.ensures.value)

pub returns-in-Err-clause-opened : goal.returns-in-Err-clause-opened
returns-in-Err-clause-opened g c = λ some. absurd (some c.new-in-Err.ensures.value)
