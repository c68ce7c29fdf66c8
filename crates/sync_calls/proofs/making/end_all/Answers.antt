-- The last room gives its library back, behind those that are there.
use Rattle.std.proofs.Common.{◌-◌, length, arith, subst, sym}
use Rattle.std.specs.Prelude.{slice_index_or}
use Rattle.sync_calls.specs.Making.{AreEndedTo}
use Rattle.sync_calls.proofs.MakingLemmas.{ended_all, ended_last, ended_next}
use Rattle.sync_calls.proofs.making.end_all.Goals as goal

pub end_one-requires : goal.end_one-requires
end_one-requires g c =
    let so = c.loop-fresh.invariant.1 in (
      so.0,
      slice_index_or so.1 (length so.1 - 1 - length c.pop.new.self.items) c.in-Some.fresh.room.start.value,
      so.2,
      ended_last g.S.Shelf.contents g.S.Shelf.may_give g.S.Shelf.texts g.S.Shelf.faults so.0 so.1 _ _ _ _ so.3 c.in-Some.ensures.items,
    )

pub loop-fresh-preserved : goal.loop-fresh-preserved
loop-fresh-preserved g c =
    let so = c.loop-fresh.invariant.1 in
    let room = c.loop-fresh.invariant.0 in
    let less = c.in-Some.ensures.len in
    let more = c.push_reserved.ensures.len in
    let kept = c.push_reserved.ensures.capacity in (
      omega arith,
      (
        so.0,
        so.1,
        so.2,
        subst (λ l. AreEndedTo g.S.Shelf.contents g.S.Shelf.may_give g.S.Shelf.texts g.S.Shelf.faults so.0 so.1 l c.pop.new.self.items) (sym c.push_reserved.ensures.items)
            (ended_next g.S.Shelf.contents g.S.Shelf.may_give g.S.Shelf.texts g.S.Shelf.faults so.0 so.1 _ _ _ _ c.end_one.result so.3 c.in-Some.ensures.items (λ depot is. c.end_one.ensures so.0 depot is)),
      ),
      λ passes all first.
          subst (λ l. AreEndedTo g.S.Shelf.contents g.S.Shelf.may_give g.S.Shelf.texts g.S.Shelf.faults passes all l c.pop.new.self.items) (sym c.push_reserved.ensures.items)
          (ended_next g.S.Shelf.contents g.S.Shelf.may_give g.S.Shelf.texts g.S.Shelf.faults passes all _ _ _ _ c.end_one.result (c.loop-fresh.invariant.2 passes all first) c.in-Some.ensures.items (λ depot is. c.end_one.ensures passes depot is)),
    )

pub returns : goal.returns
returns g c = λ passes all first.
    let ok = c.loop-fresh.rooms.ok.0 in
    let none = c.in_default.ensures.cases in
    ended_all g.S.Shelf.contents g.S.Shelf.may_give g.S.Shelf.texts g.S.Shelf.faults passes all _ _ (c.loop-fresh.invariant.2 passes all first) (omega (arith, none))
