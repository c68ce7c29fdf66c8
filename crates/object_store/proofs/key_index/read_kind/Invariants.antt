-- The index has the names that were read, and the shelf is as it was.
use Rattle.object_store.specs.KindRead.{IsReadSo}
use Rattle.object_store.proofs.key_index.read_kind.Given as goal

abbrev pub invariant-loop : goal.invariant-loop
invariant-loop g l = IsReadSo g.S.Shelf.contents g.S.Shelf.may_give g.S.Shelf.texts g.S.Shelf.faults l.fn.shelf l.shelf l.kind l.last l.index
