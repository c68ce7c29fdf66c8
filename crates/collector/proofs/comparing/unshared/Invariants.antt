-- What was found so far is settled.
use Rattle.std.proofs.Common.{◌≡◌, Ok, Some}
use Rattle.std.specs.Prelude.{⊤}
use Rattle.ids.specs.Key.{Objects}
use Rattle.object_store.specs.StoreView.{objects_of}
use Rattle.tree_walk.specs.Reading.{Reads}
use Rattle.collector.specs.Comparing.{AreComplete, AreSettled, AreWithMade}
use Rattle.collector.proofs.comparing.unshared.Given as goal

abbrev pub invariant-loop : goal.invariant-loop
invariant-loop g l = record {
  reads : Reads {T = ⊤} g.S.Shelf.contents g.S.Shelf.may_give g.S.Shelf.texts g.S.Shelf.faults l.initial.store l.store (Ok tt);
  settled : (objects : Objects) (all : Objects) → objects_of g.S.Shelf.contents l.initial.store ≡ Some objects → AreWithMade objects l.made all
      → AreComplete objects all l.fn.older l.fn.newer → AreSettled objects all l.fn.older l.fn.newer l.compared;
}
