-- What is told, and what is still to be told: of the objects, where they are told, and of the index.
use Rattle.std.proofs.Common.{◌≡◌, ◌++◌, drop, Some}
use Rattle.std.specs.FinMap as map
use Rattle.ids.specs.Key.{Objects}
use Rattle.library_rules.specs.LibraryState.{is_stored}
use Rattle.object_store.specs.StoreView.{objects_of}
use Rattle.depot.specs.Missing.{absent_from, is_known}
use Rattle.depot.proofs.missing.absent_ids.Given as goal

abbrev pub invariant-loop-id : goal.invariant-loop-id
invariant-loop-id g l = record {
  shown : (objects : Objects) → objects_of g.S.Shelf.contents l.store ≡ Some objects
      → absent_from (is_stored objects) l.kind map.empty l.ids ≡ l.found ++ absent_from (is_stored objects) l.kind l.met (drop l.id-index l.ids);
  value : absent_from (is_known l.store.index) l.kind map.empty l.ids ≡ l.found ++ absent_from (is_known l.store.index) l.kind l.met (drop l.id-index l.ids);
}
