-- The bytes so far, with those of the rest, are those of all.
use Rattle.std.proofs.Common.{◌≡◌, drop, Some, Ok}
use Rattle.std.specs.Prelude.{⊤}
use Rattle.ids.specs.Key.{Objects}
use Rattle.object_store.specs.StoreView.{objects_of}
use Rattle.tree_walk.proofs.FileLemmas.{Joins}
use Rattle.tree_walk.specs.Reading.{Reads}
use Rattle.tree_walk.proofs.contents.join.Given as goal

abbrev pub invariant-loop-block : goal.invariant-loop-block
invariant-loop-block g l = record {
  reads : Reads {T = ⊤} g.S.Shelf.contents g.S.Shelf.may_give g.S.Shelf.texts g.S.Shelf.faults l.initial.store l.store (Ok tt);
  joins : (objects : Objects) → objects_of g.S.Shelf.contents l.initial.store ≡ Some objects → Joins objects l.blocks (drop l.block-index l.blocks) l.bytes.items;
}
