-- A hall that is new, with its passes. Our own. Read IsNewOf, then AreNew and AreSame.
use Rattle.std.specs.Prelude.{◌≡◌, ℕ, ◌+◌, ◌-◌, ◌<◌, ◌≤◌, All, List, [], ◌∷◌, ◌++◌, length, take, slice_index_or, map as map_list, Option, Some, vec_capacity, vec_len}
use Rattle.std.specs.List.{Contains}
use Rattle.object_store.specs.Shelf.{Contents}
use Rattle.object_store.specs.declared.shelf.Slot.{Slot}
use Rattle.depot.specs.DepotView.{DepotView}
use Rattle.depot.specs.Story.{ComesBy}
use Rattle.turnstile.specs.PassView.{IsNewPass, drawn_of, first_of, start_of}
use Rattle.sync_calls.specs.Door.{IsDoorOf}
use Rattle.sync_calls.specs.Hall.{AreReady, ExitLock, ExitOf, HallOf, LibraryRoom, PassOf, made_with, passes_in, shares_of, shown_by}
use Rattle.sync_calls.specs.Shown.{LibraryPass, Shown}
use Rattle.sync_calls.specs.declared.making.Fresh.{Fresh}

-- a pass that has seen and made nothing shows of a library how it began
abbrev pub new_shown : {S : Type 0} → DepotView S → Shown S
new_shown depot = record { start = Some depot; seen = []; looked = 0; looks = 0; book = []; turns = 0 }

module _ {S : Type 0} (contents : S → Option Contents) (may_give : S → Slot → Option (List ℕ) → Type 0) (texts faults : S → ℕ) where
  -- a pass of a hall of these libraries, one of so many, which has seen and made nothing; the first ticket of each lock is 0, and it has read
  -- of no lock that one was drawn
  pub record IsNewOf (passes : ℕ) (depots : List (DepotView S)) (hall : HallOf S) (pass : PassOf S) : Type 0 where
    pub ready : AreReady contents may_give texts faults hall pass
    pub shows : shown_by pass ≡ map_list new_shown depots
    pub share : shares_of pass ≡ 1
    pub made : made_with pass ≡ passes
    pub tickets : All (λ to. (first_of to ≡ 0) × (drawn_of to ≡ 0)) (passes_in pass)

  -- all passes are such
  abbrev pub AreNew : ℕ → List (DepotView S) → HallOf S → List (PassOf S) → Type 0
  AreNew passes depots hall all = All (IsNewOf passes depots hall) all

-- each of these is the library that was in its place, which no change led on: it is the same, and its shelf may give no more, but what calls and
-- turns may lay
abbrev pub AreSame : {S : Type 0} → (S → Option Contents) → (S → Slot → Option (List ℕ) → Type 0) → (texts faults : S → ℕ) → List (DepotView S) → List (DepotView S) → Type 0
AreSame {S} contents may_give texts faults old new = (length new ≡ length old)
    × ((i : ℕ) (d e : DepotView S) → i < length old → ComesBy contents may_give texts faults (slice_index_or old i d) [] (slice_index_or new i e))

-- ---- for private clauses

-- a library in its room, with all passes to it
pub record IsFresh {S : Type 0} (passes : ℕ) (depot : DepotView S) (fresh : Fresh (LibraryRoom S) (LibraryPass S)) : Type 0 where
  pub start : fresh.room.start.value ≡ depot
  pub door : IsDoorOf fresh.room.door depot
  pub size : vec_len fresh.passes ≡ passes
  pub each : All (IsNewPass fresh.room.lock (Some depot) passes 0) fresh.passes.items

-- these libraries are back, and those behind them are in these rooms, the last one first
pub record AreEndedTo {S : Type 0} (contents : S → Option Contents) (may_give : S → Slot → Option (List ℕ) → Type 0) (texts faults : S → ℕ) (passes : ℕ) (all depots : List (DepotView S)) (rooms : List (Fresh (LibraryRoom S) (LibraryPass S))) : Type 0 where
  pub size : length depots + length rooms ≡ length all
  pub back : (i : ℕ) (d e : DepotView S) → i < length depots → ComesBy contents may_give texts faults (slice_index_or all i d) [] (slice_index_or depots i e)
  pub each : (k : ℕ) (d : DepotView S) (r : Fresh (LibraryRoom S) (LibraryPass S)) → k < length rooms → IsFresh passes (slice_index_or all (length all - 1 - k) d) (slice_index_or rooms k r)

-- a list that is taken from its end: these are left of all, and what those behind them became is out, the last one first
pub record AreBehind {A B : Type 0} (R : A → B → Type 0) (all left : List A) (out : List B) : Type 0 where
  pub front : left ≡ take (length left) all
  pub size : length left + length out ≡ length all
  pub each : (k : ℕ) (a : A) (b : B) → k < length out → R (slice_index_or all (length all - 1 - k) a) (slice_index_or out k b)

-- a pass without a room yet, which has memory for so many
pub record IsSeated {S : Type 0} (rooms passes : ℕ) (exit : ExitLock S) (way : ExitOf S) (pass : PassOf S) : Type 0 where
  pub empty : passes_in pass ≡ []
  pub fits : rooms ≤ vec_capacity pass.passes
  pub exits : IsNewPass exit (Some way) passes 0 pass.exit

-- a pass of a hall that is filled, which has memory for so many rooms, as the way out has
pub record IsFilling {S : Type 0} (contents : S → Option Contents) (may_give : S → Slot → Option (List ℕ) → Type 0) (texts faults : S → ℕ) (rooms passes : ℕ) (way : ExitOf S)
    (depots : List (DepotView S)) (hall : HallOf S) (pass : PassOf S) : Type 0 where
  pub new : IsNewOf contents may_give texts faults passes depots hall pass
  pub fits : rooms ≤ vec_capacity pass.passes
  pub starts : start_of pass.exit ≡ Some way
  pub empty : vec_len way.depots ≡ 0
  pub out : rooms ≤ vec_capacity way.depots

-- the pass has one to a room more, which is one of these
pub record IsDealt {S : Type 0} (dealt : List (LibraryPass S)) (old new : PassOf S) : Type 0 where
  pub one : LibraryPass S
  pub is : Contains dealt one
  pub grows : passes_in new ≡ passes_in old ++ one ∷ []
  pub size : vec_len new.passes ≡ vec_len old.passes + 1
  pub room : vec_capacity new.passes ≡ vec_capacity old.passes
  pub exit : new.exit ≡ old.exit
