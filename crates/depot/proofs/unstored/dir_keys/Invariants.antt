-- Those of the keys so far are listed that nothing is stored under.
use Rattle.std.proofs.Common.{◌≡◌, Some, is_some, not}
use Rattle.std.specs.FinMap as map
use Rattle.ids.specs.Key.{Objects}
use Rattle.library_rules.specs.Changes.{keys_added}
use Rattle.library_rules.specs.LibraryState.{is_stored}
use Rattle.object_store.specs.StoreView.{objects_of}
use Rattle.depot.specs.Plan.{listed}
use Rattle.depot.proofs.MayFreshLemmas.{ListsSo}
use Rattle.depot.proofs.unstored.dir_keys.Given as goal

abbrev pub invariant-loop-key : goal.invariant-loop-key
invariant-loop-key g l = record {
  index : ListsSo (λ key. not (is_some (map.get l.store.index key))) (keys_added (listed (map.entries l.dirs))) (keys_added (listed l.key-iterator)) l.keys;
  held : (objects : Objects) → objects_of g.S.Shelf.contents l.store ≡ Some objects
      → ListsSo (λ key. not (is_stored objects key)) (keys_added (listed (map.entries l.dirs))) (keys_added (listed l.key-iterator)) l.keys;
}
