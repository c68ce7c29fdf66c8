-- The last room is taken with its pass, and its library goes out; at the end they are turned round.
use Rattle.std.proofs.Common.{arith, subst, sym, ◌∙◌}
use Rattle.turnstile.specs.PassView.{passes_of}
use Rattle.sync_calls.specs.Closing.{AreClosed, IsClosed}
use Rattle.sync_calls.specs.Making.{AreBehind}
use Rattle.sync_calls.specs.Hall.{IsReadyAt}
use Rattle.sync_calls.proofs.BehindLemmas.{all_behind, front_less, next_behind, one_less}
use Rattle.sync_calls.proofs.ClosedLemmas.{taken_ready}
use Rattle.sync_calls.proofs.closing.close_all.Goals as goal

pub close_at-requires-clause-ready : goal.close_at-requires-clause-ready
close_at-requires-clause-ready g c =
    let all = c.args.rooms.ok.0 in
    let rs = c.loop-room.rooms.ok.0 in
    let ps = c.loop-room.passes.ok.0 in
    let here = taken_ready g.S.Shelf.contents g.S.Shelf.may_give g.S.Shelf.texts g.S.Shelf.faults c.requires.ready.0 c.args.rooms.items c.loop-room.rooms.items c.pop.new.self.items
    c.args.passes.items c.loop-room.passes.items c.pop-in-Some.new.self.items c.in-Some.room c.in-Some-pop.pass
    (λ i r p below. c.requires.ready.1 i r p (omega arith)) c.loop-room.invariant.2 c.loop-room.invariant.3 c.in-Some.ensures.items c.loop-room.invariant.4.front c.in-Some-pop.ensures.items
    (let a = one_less _ _ _ c.in-Some.ensures.items in let b = one_less _ _ _ c.in-Some-pop.ensures.items in let e = c.loop-room.invariant.0 in omega arith) in
    subst (λ n. IsReadyAt g.S.Shelf.contents g.S.Shelf.may_give g.S.Shelf.texts g.S.Shelf.faults n (passes_of c.in-Some-pop.pass) c.in-Some.room c.in-Some-pop.pass) (sym here.share)
    (subst (λ n. IsReadyAt g.S.Shelf.contents g.S.Shelf.may_give g.S.Shelf.texts g.S.Shelf.faults c.requires.ready.0 n c.in-Some.room c.in-Some-pop.pass) (sym here.among) here)

pub close_at-requires-clause-all : goal.close_at-requires-clause-all
close_at-requires-clause-all g c =
    let all = c.args.rooms.ok.0 in
    let rs = c.loop-room.rooms.ok.0 in
    let ps = c.loop-room.passes.ok.0 in
    let here = taken_ready g.S.Shelf.contents g.S.Shelf.may_give g.S.Shelf.texts g.S.Shelf.faults c.requires.ready.0 c.args.rooms.items c.loop-room.rooms.items c.pop.new.self.items
    c.args.passes.items c.loop-room.passes.items c.pop-in-Some.new.self.items c.in-Some.room c.in-Some-pop.pass
    (λ i r p below. c.requires.ready.1 i r p (omega arith)) c.loop-room.invariant.2 c.loop-room.invariant.3 c.in-Some.ensures.items c.loop-room.invariant.4.front c.in-Some-pop.ensures.items
    (let a = one_less _ _ _ c.in-Some.ensures.items in let b = one_less _ _ _ c.in-Some-pop.ensures.items in let e = c.loop-room.invariant.0 in omega arith) in
    here.share ∙ sym here.among

pub loop-room-preserved : goal.loop-room-preserved
loop-room-preserved g c =
    let less = one_less _ _ _ c.in-Some.ensures.items in
    let a = c.in-Some.ensures.len in
    let b = c.in-Some-pop.ensures.len in
    let same = c.loop-room.invariant.0 in
    let room = c.loop-room.invariant.1 in
    let short = c.loop-room.invariant.3 in
    let more = c.push_reserved.ensures.len in
    let kept = c.push_reserved.ensures.capacity in (
      omega arith,
      omega arith,
      front_less _ _ _ _ c.in-Some.ensures.items c.loop-room.invariant.2,
      omega arith,
      subst (λ out. AreBehind (IsClosed g.S.Shelf.contents g.S.Shelf.may_give g.S.Shelf.texts g.S.Shelf.faults) c.args.passes.items c.pop-in-Some.new.self.items out)
          (sym c.push_reserved.ensures.items)
          (next_behind (IsClosed g.S.Shelf.contents g.S.Shelf.may_give g.S.Shelf.texts g.S.Shelf.faults) c.args.passes.items c.loop-room.passes.items c.pop-in-Some.new.self.items c.loop-room.depots.items
          c.in-Some-pop.pass c.close_at.result c.loop-room.invariant.4 c.in-Some-pop.ensures.items c.close_at.ensures),
    )

pub returns : goal.returns
returns g c =
    let ps = c.loop-room.passes.ok.0 in
    let same = c.loop-room.invariant.0 in
    let none = c.in_default.ensures.cases in
    subst (λ out. AreClosed g.S.Shelf.contents g.S.Shelf.may_give g.S.Shelf.texts g.S.Shelf.faults c.args.passes.items out) (sym c.reverse.ensures.items)
    (all_behind (IsClosed g.S.Shelf.contents g.S.Shelf.may_give g.S.Shelf.texts g.S.Shelf.faults) c.args.passes.items c.loop-room.passes.items c.loop-room.depots.items c.loop-room.invariant.4
    (omega (arith, none)))
