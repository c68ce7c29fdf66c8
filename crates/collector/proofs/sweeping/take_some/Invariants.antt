-- What was taken so far, and what is as it was.
use Rattle.std.proofs.Common.{◌≡◌, ◌≤◌, ◌-◌, length}
use Rattle.object_store.specs.StoreView.{AddsNoStray, status_of}
use Rattle.collector.specs.Sweeping.{GivesOrNothing, Took, TookLeast}
use Rattle.collector.proofs.sweeping.take_some.Given as goal

abbrev pub invariant-loop-candidates : goal.invariant-loop-candidates
invariant-loop-candidates g l = record {
  took : Took g.S.Shelf.contents l.initial.store l.store l.initial.candidates l.candidates l.removed.items;
  least : TookLeast l.candidates l.removed.items;
  few : length l.removed.items ≤ l.at_most;
  unwritten : status_of g.S.Shelf.contents l.store ≡ status_of g.S.Shelf.contents l.initial.store;
  gives : GivesOrNothing (g.S.Shelf.may_give l.initial.store.shelf) (g.S.Shelf.may_give l.store.shelf) l.removed.items;
  texts : g.S.Shelf.texts l.store.shelf ≡ g.S.Shelf.texts l.initial.store.shelf;
  strays : AddsNoStray g.S.Shelf.contents l.initial.store l.store;
  count : g.S.Shelf.faults l.store.shelf ≡ g.S.Shelf.faults l.initial.store.shelf;
}

abbrev pub decreases-loop-candidates : goal.decreases-loop-candidates
decreases-loop-candidates g l = l.at_most - length l.removed.items
