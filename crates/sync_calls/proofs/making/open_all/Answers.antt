-- The last room that waits is opened, with a pass for each participant.
use Rattle.std.proofs.Common.{arith, refl, sym, ◌∙◌}
use Rattle.sync_calls.proofs.OpenedLemmas.{next_capacity, next_fresh, opened_all, opened_first, opened_next}
use Rattle.sync_calls.proofs.making.open_all.Goals as goal

pub loop-fresh-init : goal.loop-fresh-init
loop-fresh-init g c =
    let st = c.requires.stands in
    let none = c.requires.capacity.0 in (
      omega arith,
      c.requires.capacity.1,
      refl,
      (st.0, st.1, st.2, st.3, opened_first g.S.Shelf.contents g.S.Shelf.may_give g.S.Shelf.texts g.S.Shelf.faults _ st.0 st.1 st.2 _ _ _ none st.4 st.5 st.6 st.7),
      λ passes way depots empty out seats behind. opened_first g.S.Shelf.contents g.S.Shelf.may_give g.S.Shelf.texts g.S.Shelf.faults _ passes way depots _ _ _ none empty out seats behind,
    )

pub deal-requires-clause-size : goal.deal-requires-clause-size
deal-requires-clause-size g c =
    let st = c.loop-fresh.invariant.3 in
    (next_fresh g.S.Shelf.contents g.S.Shelf.may_give g.S.Shelf.texts g.S.Shelf.faults _ st.0 st.1 st.2 _ _ _ _ _ st.4 c.in-Some.ensures.items).size ∙ sym st.3

pub deal-requires-clause-capacity : goal.deal-requires-clause-capacity
deal-requires-clause-capacity g c =
    let st = c.loop-fresh.invariant.3 in
    let sum = c.loop-fresh.invariant.0 in
    let less = c.in-Some.ensures.len in
    next_capacity g.S.Shelf.contents g.S.Shelf.may_give g.S.Shelf.texts g.S.Shelf.faults _ st.0 st.1 st.2 _ _ _ st.4 (omega arith)

pub loop-fresh-preserved : goal.loop-fresh-preserved
loop-fresh-preserved g c =
    let so = c.loop-fresh.invariant in
    let st = so.3 in
    let sum = so.0 in
    let room = so.1 in
    let less = c.in-Some.ensures.len in
    let more = c.push_reserved.ensures.len in
    let kept = c.push_reserved.ensures.capacity in
    let same = c.deal.ensures.size in
    let ok = c.loop-fresh.seated.ok.0 in
    let ok' = c.deal.new.seated.ok.0 in (
      omega arith,
      omega arith,
      same ∙ so.2,
      (
        st.0,
        st.1,
        st.2,
        same ∙ st.3,
        opened_next g.S.Shelf.contents g.S.Shelf.may_give g.S.Shelf.texts g.S.Shelf.faults _ st.0 st.1 st.2 _ _ _ _ _ _ _ st.4 c.in-Some.ensures.items c.push_reserved.ensures.items more refl (omega arith) (omega arith)
            (λ i d e below. c.deal.ensures.ok i d e (omega arith)),
      ),
      λ passes way depots empty out seats behind.
          opened_next g.S.Shelf.contents g.S.Shelf.may_give g.S.Shelf.texts g.S.Shelf.faults _ passes way depots _ _ _ _ _ _ _ (so.4 passes way depots empty out seats behind) c.in-Some.ensures.items c.push_reserved.ensures.items more refl (omega arith) (omega arith)
          (λ i d e below. c.deal.ensures.ok i d e (omega arith)),
    )

pub returns-clause-ok : goal.returns-clause-ok
returns-clause-ok g c = λ passes way depots empty out seats behind.
    let ok = c.loop-fresh.rooms.ok.0 in
    let none = c.in_default.ensures.cases in
    opened_all g.S.Shelf.contents g.S.Shelf.may_give g.S.Shelf.texts g.S.Shelf.faults _ passes way depots _ _ _ (c.loop-fresh.invariant.4 passes way depots empty out seats behind) (omega (arith, none))
