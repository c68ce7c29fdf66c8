use Rattle.std.proofs.Common.{◌≡◌, Some, Ok}
use Rattle.std.specs.Prelude.{⊤}
use Rattle.std.specs.FinMap as map
use Rattle.ids.specs.Key.{Objects}
use Rattle.object_store.specs.StoreView.{objects_of}
use Rattle.tree_walk.specs.Reading.{Reads}
use Rattle.tree_merge.specs.TreeBuilding.{AreNamed}
use Rattle.tree_merge.proofs.UnstoredLemmas.{DropsSo}
use Rattle.tree_merge.proofs.unstored.drop_stored.Given as goal

abbrev pub invariant-loop-key : goal.invariant-loop-key
invariant-loop-key g l = record {
  reads : Reads {T = ⊤} g.S.Shelf.contents g.S.Shelf.may_give g.S.Shelf.texts g.S.Shelf.faults l.initial.store l.store (Ok tt);
  names : AreNamed l.made;
  left_names : AreNamed l.left;
  drops : (objects : Objects) → objects_of g.S.Shelf.contents l.initial.store ≡ Some objects → DropsSo objects l.initial.made l.made l.left;
}

abbrev pub decreases-loop-key : goal.decreases-loop-key
decreases-loop-key g l = map.len l.made
