-- The commits of the head updates so far are complete.
use Rattle.std.proofs.Common.{◌≡◌, drop, Some}
use Rattle.ids.specs.Key.{Objects}
use Rattle.library_rules.specs.LibraryState.{kept_commits}
use Rattle.object_store.specs.StoreView.{Keeps, ReadsShelf, objects_of}
use Rattle.depot.specs.DepotView.{FitsIn}
use Rattle.depot.specs.Start.{first_incomplete}
use Rattle.depot.proofs.complete.check_kept.Given as goal

abbrev pub invariant-loop-install : goal.invariant-loop-install
invariant-loop-install g l = record {
  keeps : Keeps g.S.Shelf.contents l.initial.store l.store;
  reads : ReadsShelf g.S.Shelf.may_give g.S.Shelf.texts l.initial.store.shelf l.store.shelf;
  count : g.S.Shelf.faults l.store.shelf ≡ g.S.Shelf.faults l.initial.store.shelf;
  fits : FitsIn g.S.Shelf.contents l.initial.store l.known;
  left : (objects : Objects) → objects_of g.S.Shelf.contents l.initial.store ≡ Some objects
      → first_incomplete objects (kept_commits l.kept) ≡ first_incomplete objects (kept_commits (drop l.install-index l.kept));
}
