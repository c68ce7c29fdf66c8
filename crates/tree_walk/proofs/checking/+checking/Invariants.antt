-- The room falls from a directory to those in it. What was found so far, with what is left to go over, is all.
use Rattle.std.proofs.Common.{◌≡◌, ◌+◌, ◌*◌, drop, Some, Ok}
use Rattle.std.specs.Prelude.{⊤}
use Rattle.ids.specs.Key.{Objects}
use Rattle.object_store.specs.StoreView.{objects_of}
use Rattle.tree_walk.specs.Checking.{IsWithin}
use Rattle.tree_walk.specs.KnownTrees.{Fits}
use Rattle.tree_walk.specs.Reading.{Reads}
use Rattle.tree_walk.specs.Trail.{names_of}
use Rattle.tree_walk.proofs.CheckingLemmas.{Counts}
use Rattle.tree_walk.proofs.checking.+checking.Given as goal

abbrev pub decreases-check_directory : goal.decreases-check_directory
decreases-check_directory g l = 3 * l.room + 2

abbrev pub decreases-check_entries : goal.decreases-check_entries
decreases-check_entries g l = 3 * l.room + 1

abbrev pub decreases-check_entry : goal.decreases-check_entry
decreases-check_entry g l = 3 * l.room

abbrev pub invariant-check_entries-loop-entry : goal.invariant-check_entries-loop-entry
invariant-check_entries-loop-entry g l = record {
  reads : Reads {T = ⊤} g.S.Shelf.contents g.S.Shelf.may_give g.S.Shelf.texts g.S.Shelf.faults l.initial.store l.store (Ok tt);
  known : (objects : Objects) → objects_of g.S.Shelf.contents l.store ≡ Some objects → Fits objects l.known;
  within : IsWithin l.room l.paths l.extent;
  counts : (objects : Objects) → objects_of g.S.Shelf.contents l.initial.store ≡ Some objects
      → Counts objects l.room l.paths (names_of l.trail) l.entries (drop l.entry-index l.entries) l.extent;
}
