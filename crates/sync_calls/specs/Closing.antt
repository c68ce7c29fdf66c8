-- What a hall that is closed gives back. Our own. Read IsClosed, then AreClosed.
use Rattle.std.specs.Prelude.{◌≡◌, ℕ, ◌<◌, ◌≤◌, List, length, slice_index_or, Option, Some}
use Rattle.object_store.specs.Shelf.{Contents}
use Rattle.object_store.specs.declared.shelf.Slot.{Slot}
use Rattle.depot.specs.DepotView.{DepotView}
use Rattle.depot.specs.Story.{ComesBy}
use Rattle.turnstile.specs.Lists.{Has}
use Rattle.turnstile.specs.PassView.{book_of, drawn_of, seen_of, start_of, turns_of}
use Rattle.sync_calls.specs.Shown.{LibraryPass}

module _ {S : Type 0} (contents : S → Option Contents) (may_give : S → Slot → Option (List ℕ) → Type 0) (texts faults : S → ℕ) where
  -- the library that is given back comes by the changes that the pass has seen of the library as it began, and each of them has its
  -- place in the book; and it read of no more turns of the lock than it took
  pub record IsClosed (pass : LibraryPass S) (depot : DepotView S) : Type 0 where
    pub start : DepotView S
    pub begins : start_of pass ≡ Some start
    pub comes : ComesBy contents may_give texts faults start (seen_of pass) depot
    pub each : (p : ℕ) → p < length (seen_of pass) → Has p (book_of pass)
    pub drawn : drawn_of pass ≤ turns_of pass

  -- so of each library, in their order
  abbrev pub AreClosed : List (LibraryPass S) → List (DepotView S) → Type 0
  AreClosed passes depots = (length depots ≡ length passes)
      × ((i : ℕ) (pass : LibraryPass S) (depot : DepotView S) → i < length passes → IsClosed (slice_index_or passes i pass) (slice_index_or depots i depot))
