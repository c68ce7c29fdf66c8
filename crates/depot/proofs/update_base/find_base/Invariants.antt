-- What is left of the search, from the commit that is looked at.
use Rattle.std.proofs.Common.{◌≡◌, ◌-◌, Some, Ok}
use Rattle.std.specs.Prelude.{⊤}
use Rattle.library_rules.specs.LibraryState.{State}
use Rattle.library_rules.specs.MergeBase.{base_from, base_of}
use Rattle.object_store.specs.StoreView.{objects_of}
use Rattle.tree_walk.specs.Reading.{Reads}
use Rattle.depot.proofs.update_base.find_base.Given as goal

abbrev pub invariant-loop-steps : goal.invariant-loop-steps
invariant-loop-steps g l = record {
  reads : Reads {T = ⊤} g.S.Shelf.contents g.S.Shelf.may_give g.S.Shelf.texts g.S.Shelf.faults l.initial.store l.store (Ok tt);
  left : (s : State) → objects_of g.S.Shelf.contents l.initial.store ≡ Some s.objects → s.state.kept ≡ l.kept
      → base_of s l.initial.id ≡ base_from s (128 - l.steps) l.steps l.id;
}
