-- Operation records: what was done at which place of which library's history. Our own. Read Deed and Line first, then
-- IsReading, IsChanging and IsLooking with GivesSince, then Moves and Lines.
use Rattle.std.specs.Prelude.{◌≡◌, ◌⊎◌, ℕ, ◌+◌, ◌≤◌, List, [], ◌∷◌, ◌++◌, length, slice_set, take, Option, Some}
use Rattle.std.specs.List.{slice_get}
use mathlib.Core.List.{IsPrefix}
use Rattle.library_state.specs.declared.call.Call.{Call}
use Rattle.library_state.specs.declared.reply.Reply.{Reply}
use Rattle.object_store.specs.Shelf.{Contents}
use Rattle.object_store.specs.declared.shelf.Slot.{Slot}
use Rattle.depot.specs.DepotView.{DepotView}
use Rattle.depot.specs.Giving.{GivesBy, IsLaid}
use Rattle.depot.specs.Story.{IsAnswered, IsSame, IsTurned, Links, removed_through}
use Rattle.depot.specs.declared.story.Change.{Change}
use Rattle.depot.specs.declared.story.Made.{Made}
use Rattle.depot.specs.declared.story.Made.TheVariants as made
use Rattle.depot.specs.declared.turn.Turn.{Turn}
use Rattle.sync_calls.specs.Shown.{Shown, library_at}

-- a call was answered at a moment; a turn of a collection was taken, with a goal, at a moment, of so many objects at most; or
-- the length of the history was looked at
pub data Deed : Type 0 where
  Called : Call → ℕ → Reply → Deed
  TookTurn : Option ℕ → ℕ → ℕ → Turn → Deed
  Looked : Deed

-- of the library with this number, at this place of its history
pub record Line : Type 0 where
  pub library : ℕ
  pub place : ℕ
  pub deed : Deed

-- what made a change, and when, is this deed
abbrev pub IsMadeBy : Made → ℕ → Deed → Type 0
IsMadeBy (made.Asked call said) at (Called c moment r) = (call.value ≡ c) × (said.value ≡ r) × (at ≡ moment)
IsMadeBy (made.Turned goal most taken) at (TookTurn g moment m turn) = (goal ≡ g) × (most ≡ m) × (taken.value ≡ turn) × (at ≡ moment)
IsMadeBy other at deed = ⊥

-- the place lies behind all that was seen or looked at
abbrev pub IsNew : {S : Type 0} → Shown S → ℕ → Type 0
IsNew u place = (length u.seen ≤ place) × (u.looked ≤ place)

-- the history had this length as it was looked at, once, and no turn was taken
pub record IsLooking {S : Type 0} (u : Shown S) (place : ℕ) (v : Shown S) : Type 0 where
  pub new : IsNew u place
  pub same : v ≡ record u { looked = place; looks = u.looks + 1 }

-- the shelf of a library at this place of a history may give no more than that of the library as the history began, but what calls
-- and turns on it may lay, and nothing under a key that left through the changes before this place
pub record GivesSince {S : Type 0} (may_give : S → Slot → Option (List ℕ) → Type 0) (u : Shown S) (place : ℕ) (depot : DepotView S) : Type 0 where
  pub start : DepotView S
  pub began : u.start ≡ Some start
  pub gives : GivesBy (IsLaid start.state.lib (removed_through (take place u.seen))) (may_give start.store.shelf) (may_give depot.store.shelf)

module _ {S : Type 0} (contents : S → Option Contents) (may_give : S → Slot → Option (List ℕ) → Type 0) (texts faults : S → ℕ) where
  -- the deed leads from one library to another
  abbrev pub Does : DepotView S → Deed → DepotView S → Type 0
  Does old (Called call moment r) new = IsAnswered contents may_give texts faults old call moment r new
  Does old (TookTurn goal moment most turn) new = IsTurned contents may_give texts faults old goal moment most turn new
  Does old Looked new = ⊥

  -- the deed was done on the library at that place, which it leaves as it was
  pub record IsReadAt (u : Shown S) (place : ℕ) (deed : Deed) : Type 0 where
    pub there : DepotView S
    pub stood : library_at u place ≡ Some there
    pub before : DepotView S
    pub same : IsSame contents faults there before
    pub gives : GivesSince may_give u place before
    pub after : DepotView S
    pub does : Does before deed after
    pub stays : IsSame contents faults before after

  -- one turn was taken, all changes were seen, and a deed left the library as it was after them
  pub record IsReading (u : Shown S) (place : ℕ) (deed : Deed) (v : Shown S) : Type 0 where
    pub new : IsNew u place
    pub grows : IsPrefix u.seen v.seen
    pub whole : place ≡ length v.seen
    pub same : v ≡ record u { seen = v.seen; turns = u.turns + 1 }
    pub reads : IsReadAt v place deed

  -- one turn was taken, all changes were seen, and a deed made the one at this place, which is in the book now
  pub record IsChanging (u : Shown S) (place : ℕ) (deed : Deed) (v : Shown S) : Type 0 where
    pub new : IsNew u place
    pub grows : IsPrefix u.seen v.seen
    pub whole : length v.seen ≡ place + 1
    pub same : v ≡ record u { seen = v.seen; book = u.book ++ place ∷ []; turns = u.turns + 1 }
    pub change : Change (DepotView S)
    pub at : slice_get v.seen place ≡ Some change
    pub made : IsMadeBy change.made change.moment deed
    pub there : DepotView S
    pub stood : library_at v place ≡ Some there
    pub follows : IsSame contents faults there change.before.value
    pub gives : GivesSince may_give v place change.before.value
    pub links : Links contents may_give texts faults change

  abbrev pub IsDone : Shown S → ℕ → Deed → Shown S → Type 0
  IsDone u place Looked v = IsLooking u place v
  IsDone u place deed v = IsReading u place deed v ⊎ IsChanging u place deed v

  -- one operation, on one library: what is shown of the others stays
  pub record Moves (us : List (Shown S)) (line : Line) (vs : List (Shown S)) : Type 0 where
    pub before : Shown S
    pub was : slice_get us line.library ≡ Some before
    pub after : Shown S
    pub is : vs ≡ slice_set us line.library after
    pub done : IsDone before line.place line.deed after

  -- these operations, in their order
  abbrev pub Lines : List (Shown S) → List Line → List (Shown S) → Type 0
  Lines us [] vs = vs ≡ us
  Lines us (line ∷ lines) vs = (mid : List (Shown S)) × Moves us line mid × Lines mid lines vs
