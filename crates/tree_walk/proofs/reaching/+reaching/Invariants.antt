-- The room falls from a directory to those in it. What was reached so far, with what is left to go over, is all.
use Rattle.std.proofs.Common.{◌≡◌, ◌+◌, ◌*◌, true, drop, None, Some, Ok}
use Rattle.std.specs.Prelude.{⊤}
use Rattle.ids.specs.Key.{Objects}
use Rattle.object_graph.specs.Traversal.{Walk}
use Rattle.object_store.specs.StoreView.{objects_of}
use Rattle.tree_walk.specs.Reaching.{IsSeen}
use Rattle.tree_walk.specs.Reading.{Reads}
use Rattle.tree_walk.specs.Steps.{entries_step}
use Rattle.tree_walk.specs.Trail.{names_of}
use Rattle.tree_walk.proofs.ReachingLemmas.{Comes}
use Rattle.tree_walk.proofs.reaching.+reaching.Given as goal

abbrev pub decreases-reach_directory : goal.decreases-reach_directory
decreases-reach_directory g l = 3 * l.room + 2

abbrev pub decreases-reach_entries : goal.decreases-reach_entries
decreases-reach_entries g l = 3 * l.room + 1

abbrev pub decreases-reach_entry : goal.decreases-reach_entry
decreases-reach_entry g l = 3 * l.room

abbrev pub invariant-reach_entries-loop-entry : goal.invariant-reach_entries-loop-entry
invariant-reach_entries-loop-entry g l = record {
  reads : Reads {T = ⊤} g.S.Shelf.contents g.S.Shelf.may_give g.S.Shelf.texts g.S.Shelf.faults l.initial.store l.store (Ok tt);
  comes : (objects : Objects) → objects_of g.S.Shelf.contents l.initial.store ≡ Some objects
      → (w : Walk) → IsSeen l.blocks objects w.visits l.initial.met → (entries_step true objects l.room (names_of l.trail) l.entries w).fault ≡ None
      → Comes l.blocks objects l.room (names_of l.trail) l.entries (drop l.entry-index l.entries) w l.initial.met l.met;
}
