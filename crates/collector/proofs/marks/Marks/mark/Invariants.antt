-- So many are marked, and nothing else is changed.
use Rattle.std.proofs.Common.{◌≡◌, ◌≤◌, ◌+◌, length, Some, Ok}
use Rattle.std.specs.Prelude.{⊤}
use Rattle.ids.specs.Key.{Objects}
use Rattle.object_store.specs.StoreView.{objects_of}
use Rattle.tree_walk.specs.Reading.{Reads}
use Rattle.collector.specs.Marking.{HasMarked, MarksMany}
use Rattle.collector.specs.Marks.{AreMarks}
use Rattle.collector.specs.Opened.{HaveOpened, OpensFirst, OpensMore}
use Rattle.collector.proofs.marks.Marks.mark.Given as goal

abbrev pub invariant-loop-count : goal.invariant-loop-count
invariant-loop-count g l = record {
  reads : Reads {T = ⊤} g.S.Shelf.contents g.S.Shelf.may_give g.S.Shelf.texts g.S.Shelf.faults l.initial.store l.store (Ok tt);
  marks : (objects : Objects) → objects_of g.S.Shelf.contents l.initial.store ≡ Some objects → MarksMany objects l.initial.self l.self l.count;
  left : HasMarked l.initial.self l.self;
  size : length l.self.marked ≡ length l.initial.self.marked + l.count;
  first : l.count ≡ 0 → l.self.pending ≡ l.initial.self.pending;
  opened : OpensMore l.initial.store.index (g.S.Shelf.may_give l.initial.store.shelf) l.initial.self l.self;
  began : 1 ≤ l.count → OpensFirst l.initial.store.index (g.S.Shelf.may_give l.initial.store.shelf) l.initial.self l.self;
  good : 1 ≤ l.count → AreMarks l.self;
  read : 1 ≤ l.count → HaveOpened l.self;
}
