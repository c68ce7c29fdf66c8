-- All libraries are in their rooms; or they come back.
use Rattle.std.proofs.Common.{arith, subst, sym}
use Rattle.sync_calls.specs.Making.{AreBehind, AreEndedTo, IsFresh}
use Rattle.sync_calls.proofs.GatheredLemmas.{empty_list, items_same}
use Rattle.sync_calls.proofs.MakingLemmas.{ended_first}
use Rattle.sync_calls.proofs.making.Hall+S.new.Goals as goal

pub end_all-requires-clause-stands : goal.end_all-requires-clause-stands
end_all-requires-clause-stands g c = (
  c.args.passes,
  c.args.depots.items,
  c.requires.from_one,
  subst (λ rooms. AreEndedTo g.S.Shelf.contents g.S.Shelf.may_give g.S.Shelf.texts g.S.Shelf.faults c.args.passes c.args.depots.items c.start_all.new.depots.items rooms)
      (sym (items_same _ _ c.in-Err-hall_of.ensures.err)) (ended_first g.S.Shelf.contents g.S.Shelf.may_give g.S.Shelf.texts g.S.Shelf.faults c.args.passes _ _ _ c.in-Ok.ensures.ok.0),
)

pub returns-in-Ok-hall_of-clause-ok : goal.returns-in-Ok-hall_of-clause-ok
returns-in-Ok-hall_of-clause-ok g c =
    let ok = c.start_all.new.depots.ok.0 in
    let none = c.in-Ok.ensures.ok.1 in
    c.in-Ok-hall_of.ensures.ok c.args.depots.items
    (subst (λ left. AreBehind (IsFresh c.args.passes) c.args.depots.items left c.in-Ok.rooms.items) (empty_list _ (omega arith)) c.in-Ok.ensures.ok.0)

pub returns-in-Err-hall_of-clause-err : goal.returns-in-Err-hall_of-clause-err
returns-in-Err-hall_of-clause-err g c =
    c.end_all.ensures c.args.passes c.args.depots.items
    (subst (λ rooms. AreEndedTo g.S.Shelf.contents g.S.Shelf.may_give g.S.Shelf.texts g.S.Shelf.faults c.args.passes c.args.depots.items c.start_all.new.depots.items rooms)
    (sym (items_same _ _ c.in-Err-hall_of.ensures.err)) (ended_first g.S.Shelf.contents g.S.Shelf.may_give g.S.Shelf.texts g.S.Shelf.faults c.args.passes _ _ _ c.in-Ok.ensures.ok.0))
