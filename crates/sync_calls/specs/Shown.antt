-- What a pass shows of one library: the history that it has seen, and which places of it are its own. Our own. Read Shown and
-- library_at first, then Knows.
use Rattle.std.specs.Prelude.{◌≡◌, ℕ, zero, suc, ◌<◌, List, [], ◌∷◌, length, map as map_list, Option, None, Some, option_map}
use Rattle.object_store.specs.Shelf.{Contents}
use Rattle.object_store.specs.declared.shelf.Slot.{Slot}
use Rattle.depot.specs.DepotView.{DepotView}
use Rattle.depot.specs.Story.{LeadsTo}
use Rattle.depot.specs.declared.story.Change.{Change}
use Rattle.turnstile.specs.Lists.{Has, IsOnce}
use Rattle.turnstile.specs.PassView.{view_of}
use Rattle.turnstile.specs.declared.seated.Seated.{Seated}
use Rattle.turnstile.specs.declared.view.Parcel.{Parcel}
use Rattle.turnstile.specs.declared.view.View.{View}

-- a pass to one library, and what it knows
abbrev pub LibraryPass : Type 0 → Type 0
LibraryPass S = Seated (Parcel (DepotView S) (Change (DepotView S))) (View (DepotView S) (Change (DepotView S)))

abbrev pub LibraryView : Type 0 → Type 0
LibraryView S = View (DepotView S) (Change (DepotView S))

-- the library as its history began, the changes seen, the number last looked at, how often one was looked at, the places of
-- the changes that were made through this pass, and how many turns it took
pub record Shown (S : Type 0) : Type 0 where
  pub start : Option (DepotView S)
  pub seen : List (Change (DepotView S))
  pub looked : ℕ
  pub looks : ℕ
  pub book : List ℕ
  pub turns : ℕ

abbrev pub shown_in : {S : Type 0} → LibraryView S → Shown S
shown_in v = record { start = v.start; seen = v.seen; looked = v.looked; looks = v.looks; book = v.book; turns = v.turns }

abbrev pub shown_of : {S : Type 0} → LibraryPass S → Shown S
shown_of p = shown_in (view_of p)

-- what the passes to all libraries show
abbrev pub all_shown : {S : Type 0} → List (LibraryPass S) → List (Shown S)
all_shown passes = map_list shown_of passes

-- the library after so many changes; none where fewer are known
abbrev pub library_after : {V : Type 0} → Option V → List (Change V) → ℕ → Option V
library_after start changes zero = start
library_after start [] (suc n) = None
library_after start (change ∷ changes) (suc n) = library_after (Some change.after.value) changes n

abbrev pub library_at : {S : Type 0} → Shown S → ℕ → Option (DepotView S)
library_at u place = library_after u.start u.seen place

-- what is fixed while a hall runs, by the library as it began: its id and its opening number
abbrev pub lib_of : {S : Type 0} → Shown S → Option (List ℕ)
lib_of u = option_map (λ depot. depot.state.lib) u.start

abbrev pub opening_of : {S : Type 0} → Shown S → Option ℕ
opening_of u = option_map (λ depot. depot.state.opening) u.start

-- the changes seen lead from the library as it began to another, and the book has places of these, each once
pub record Knows {S : Type 0} (contents : S → Option Contents) (may_give : S → Slot → Option (List ℕ) → Type 0) (texts faults : S → ℕ) (u : Shown S) : Type 0 where
  pub start : DepotView S
  pub begins : u.start ≡ Some start
  pub last : DepotView S
  pub leads : LeadsTo contents may_give texts faults start u.seen last
  pub once : IsOnce u.book
  pub below : (p : ℕ) → Has p u.book → p < length u.seen
