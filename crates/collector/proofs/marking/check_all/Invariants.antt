-- What is known is right, and the commits so far have no fault.
use Rattle.std.proofs.Common.{◌≡◌, drop, Ok, Some}
use Rattle.std.specs.Prelude.{⊤}
use Rattle.ids.specs.Key.{Objects}
use Rattle.object_store.specs.StoreView.{objects_of}
use Rattle.tree_walk.specs.KnownTrees.{Fits}
use Rattle.tree_walk.specs.Reading.{Reads}
use Rattle.collector.specs.Marking.{first_fault}
use Rattle.collector.proofs.marking.check_all.Given as goal

abbrev pub invariant-loop-commit : goal.invariant-loop-commit
invariant-loop-commit g l = record {
  reads : Reads {T = ⊤} g.S.Shelf.contents g.S.Shelf.may_give g.S.Shelf.texts g.S.Shelf.faults l.initial.store l.store (Ok tt);
  fits : (objects : Objects) → objects_of g.S.Shelf.contents l.store ≡ Some objects → Fits objects l.known;
  left : (objects : Objects) → objects_of g.S.Shelf.contents l.initial.store ≡ Some objects
      → first_fault objects l.commits ≡ first_fault objects (drop l.commit-index l.commits);
}
