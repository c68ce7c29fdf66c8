-- Those of the keys so far that aren't stored are taken back.
use Rattle.std.proofs.Common.{◌≡◌, ◌&&◌, Some, is_some, not, take}
use Rattle.std.specs.FinMap as map
use Rattle.std.specs.FinSet as set
use Rattle.ids.specs.Key.{Objects}
use Rattle.library_rules.specs.LibraryState.{is_stored}
use Rattle.object_graph.specs.Traversal.{is_in}
use Rattle.object_store.specs.StoreView.{objects_of}
use Rattle.depot.specs.Fresh.{HasFresh}
use Rattle.depot.proofs.shields.take_back.Given as goal

abbrev pub invariant-loop-key : goal.invariant-loop-key
invariant-loop-key g l = record {
  index : HasFresh (λ k. set.contains l.initial.running.running.fresh k && not (is_in (take l.key-index l.keys) k && not (is_some (map.get l.store.index k)))) l.initial.running l.running;
  held : (objects : Objects) → objects_of g.S.Shelf.contents l.store ≡ Some objects
      → HasFresh (λ k. set.contains l.initial.running.running.fresh k && not (is_in (take l.key-index l.keys) k && not (is_stored objects k))) l.initial.running l.running;
}
