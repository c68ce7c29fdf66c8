-- The room falls from a directory to those in it. Each name waits, or is merged.
use Rattle.std.proofs.Common.{◌≡◌, ◌+◌, ◌*◌, Some, Ok}
use Rattle.std.specs.Prelude.{⊤}
use Rattle.ids.specs.Key.{Objects}
use Rattle.object_store.specs.StoreView.{objects_of}
use Rattle.tree_walk.specs.KnownTrees.{Fits}
use Rattle.tree_walk.specs.Reading.{Reads}
use Rattle.tree_merge.specs.Compared.{AreCompared, StayCompared}
use Rattle.tree_merge.specs.Level.{in_level}
use Rattle.tree_merge.specs.Opening.{AreWholeSides}
use Rattle.tree_merge.specs.TreeBuilding.{AreNamed}
use Rattle.tree_merge.specs.WorkSoFar.{IsCausedIn}
use Rattle.tree_merge.proofs.FirstNameLemmas.{below_name}
use Rattle.tree_merge.proofs.MergingSoLemmas.{MergingSo}
use Rattle.tree_merge.proofs.directory_merge.+directories.Given as goal

abbrev pub decreases-merge_directory : goal.decreases-merge_directory
decreases-merge_directory g l = 3 * l.room + 2

abbrev pub decreases-merge_entry : goal.decreases-merge_entry
decreases-merge_entry g l = 3 * l.room + 1

abbrev pub decreases-merge_below : goal.decreases-merge_below
decreases-merge_below g l = 3 * l.room + 3

abbrev pub invariant-merge_directory-loop-own : goal.invariant-merge_directory-loop-own
invariant-merge_directory-loop-own g l = record {
  reads : Reads {T = ⊤} g.S.Shelf.contents g.S.Shelf.may_give g.S.Shelf.texts g.S.Shelf.faults l.initial.store l.store (Ok tt);
  known : (objects : Objects) → objects_of g.S.Shelf.contents l.store ≡ Some objects → Fits objects l.known;
  told : StayCompared (objects_of g.S.Shelf.contents l.initial.store) l.initial.compared l.compared;
  named : AreNamed l.initial.work.made → AreNamed l.work.made;
  cause : IsCausedIn l.initial.work l.work;
  merging : (objects : Objects) → objects_of g.S.Shelf.contents l.initial.store ≡ Some objects → AreCompared objects l.initial.compared → (whole : AreWholeSides objects l.room l.ids)
      → MergingSo objects l.path l.ids (below_name objects l.ids l.room whole) l.level l.opened l.initial.work l.work;
}

abbrev pub decreases-merge_directory-loop-own : goal.decreases-merge_directory-loop-own
decreases-merge_directory-loop-own g l = in_level l.level
