-- What is left of both is the same exactly where they are.
use Rattle.std.proofs.Common.{◌≡◌, ◌+◌, length, Some, None, Ok}
use Rattle.std.specs.Prelude.{⊤}
use Rattle.ids.specs.Key.{Objects}
use Rattle.object_store.specs.StoreView.{objects_of}
use Rattle.object_graph.specs.Objects.{joined}
use Rattle.tree_walk.specs.Files.{GoesOn, blocks_due, weight}
use Rattle.tree_walk.specs.Reading.{Reads}
use Rattle.tree_walk.proofs.contents.same_blocks.Given as goal

abbrev pub invariant-loop-right : goal.invariant-loop-right
invariant-loop-right g l = record {
  reads : Reads {T = ⊤} g.S.Shelf.contents g.S.Shelf.may_give g.S.Shelf.texts g.S.Shelf.faults l.initial.store l.store (Ok tt);
  goes : (objects : Objects) → objects_of g.S.Shelf.contents l.initial.store ≡ Some objects → blocks_due objects l.initial.left.blocks.now ≡ None → blocks_due objects l.initial.right.blocks.now ≡ None
      → length (joined objects l.initial.left.blocks.now) ≡ length (joined objects l.initial.right.blocks.now) → GoesOn objects l.initial.left l.initial.right l.left l.right;
}

abbrev pub decreases-loop-right : goal.decreases-loop-right
decreases-loop-right g l = weight l.left + weight l.right
