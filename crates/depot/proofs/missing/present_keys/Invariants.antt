-- What the ids so far name is listed: of the objects, where they are told, and of the index.
use Rattle.std.proofs.Common.{◌≡◌, Some, take}
use Rattle.std.specs.Prelude.{filter}
use Rattle.ids.specs.Key.{Objects}
use Rattle.library_rules.specs.Calls.{keys_of}
use Rattle.library_rules.specs.Changes.{stored_keys}
use Rattle.object_store.specs.StoreView.{objects_of}
use Rattle.depot.specs.Missing.{is_known}
use Rattle.depot.proofs.missing.present_keys.Given as goal

abbrev pub invariant-loop-id : goal.invariant-loop-id
invariant-loop-id g l = record {
  shown : (objects : Objects) → objects_of g.S.Shelf.contents l.store ≡ Some objects → l.keys ≡ stored_keys objects (keys_of l.kind (take l.id-index l.ids));
  value : l.keys ≡ filter (is_known l.store.index) (keys_of l.kind (take l.id-index l.ids));
}
