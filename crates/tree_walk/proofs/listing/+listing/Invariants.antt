-- The room falls from a directory to those in it. What was found so far, with what is left to go over, is all.
use Rattle.std.proofs.Common.{◌≡◌, ◌+◌, ◌*◌, drop, Some, Ok}
use Rattle.std.specs.Prelude.{⊤}
use Rattle.ids.specs.Key.{Objects}
use Rattle.object_store.specs.StoreView.{objects_of}
use Rattle.tree_walk.proofs.ListingLemmas.{GoesOn}
use Rattle.tree_walk.specs.Reading.{Reads}
use Rattle.tree_walk.proofs.listing.+listing.Given as goal

abbrev pub decreases-list_directory : goal.decreases-list_directory
decreases-list_directory g l = 3 * l.room + 2

abbrev pub decreases-list_entries : goal.decreases-list_entries
decreases-list_entries g l = 3 * l.room + 1

abbrev pub decreases-list_entry : goal.decreases-list_entry
decreases-list_entry g l = 3 * l.room

abbrev pub invariant-list_entries-loop-entry : goal.invariant-list_entries-loop-entry
invariant-list_entries-loop-entry g l = record {
  reads : Reads {T = ⊤} g.S.Shelf.contents g.S.Shelf.may_give g.S.Shelf.texts g.S.Shelf.faults l.initial.store l.store (Ok tt);
  goes : (objects : Objects) → objects_of g.S.Shelf.contents l.initial.store ≡ Some objects
      → GoesOn objects l.room l.path l.entries (drop l.entry-index l.entries) l.initial.found l.found;
}
