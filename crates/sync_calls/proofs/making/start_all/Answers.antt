-- The last library goes into its room; where memory is wanting it comes back, and then those behind it.
use Rattle.std.proofs.Common.{◌∷◌, ◌++◌, [], arith, ap, subst, sym, ◌∙◌}
use Rattle.collector.proofs.WorklistLemmas.{on_error}
use Rattle.sync_calls.specs.Making.{AreBehind, AreEndedTo, IsFresh}
use Rattle.sync_calls.proofs.BehindLemmas.{next_behind}
use Rattle.sync_calls.proofs.MakingLemmas.{ended_first, same_all}
use Rattle.sync_calls.proofs.making.start_all.Goals as goal

pub loop-depot-preserved : goal.loop-depot-preserved
loop-depot-preserved g c =
    let so = c.loop-depot.invariant in
    let first = so.0 in
    let second = so.1 in
    let less = c.in-Some.ensures.len in
    let same = c.in-Some.ensures.capacity in
    let more = c.push_reserved.ensures.len in
    let kept = c.push_reserved.ensures.capacity in (
      omega arith,
      omega arith,
      same ∙ so.2,
      subst (λ out. AreBehind (IsFresh c.args.passes) c.args.depots.now.items c.pop.new.self.items out) (sym c.push_reserved.ensures.items)
          (next_behind (IsFresh c.args.passes) _ _ _ _ c.in-Some.depot c.in-Ok.fresh so.3 c.in-Some.ensures.items c.in-Ok.ensures.ok),
    )

pub end_all-requires-clause-stands : goal.end_all-requires-clause-stands
end_all-requires-clause-stands g c = (
  c.args.passes,
  c.args.depots.now.items,
  c.requires.from_one,
  subst (λ left. AreEndedTo g.S.Shelf.contents g.S.Shelf.may_give g.S.Shelf.texts g.S.Shelf.faults c.args.passes c.args.depots.now.items left c.loop-depot.rooms.items)
      (c.in-Some.ensures.items ∙ (ap (λ depot. c.pop.new.self.items ++ depot ∷ []) (sym c.in-Err.ensures.err) ∙ sym c.push_reserved-in-Err.ensures.items))
      (ended_first g.S.Shelf.contents g.S.Shelf.may_give g.S.Shelf.texts g.S.Shelf.faults c.args.passes _ _ _ c.loop-depot.invariant.3),
)

pub returns-in-Err-clause-err : goal.returns-in-Err-clause-err
returns-in-Err-clause-err g c =
    c.end_all.ensures c.args.passes c.args.depots.now.items
    (subst (λ left. AreEndedTo g.S.Shelf.contents g.S.Shelf.may_give g.S.Shelf.texts g.S.Shelf.faults c.args.passes c.args.depots.now.items left c.loop-depot.rooms.items)
    (c.in-Some.ensures.items ∙ (ap (λ depot. c.pop.new.self.items ++ depot ∷ []) (sym c.in-Err.ensures.err) ∙ sym c.push_reserved-in-Err.ensures.items))
    (ended_first g.S.Shelf.contents g.S.Shelf.may_give g.S.Shelf.texts g.S.Shelf.faults c.args.passes _ _ _ c.loop-depot.invariant.3))

pub returns-in_err-rooms-clause-err : goal.returns-in_err-rooms-clause-err
returns-in_err-rooms-clause-err g c =
    on_error _ c.from_residual.result (same_all g.S.Shelf.contents g.S.Shelf.may_give g.S.Shelf.texts g.S.Shelf.faults c.args.depots.now.items)
