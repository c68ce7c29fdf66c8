-- What a collection that is asked for does, of a library that nobody else asks: turn after turn, up to the end of its collection or a
-- refusal. Our own. Read TurnsOn and TellsTurns first, then CollectsBy.
use Rattle.std.specs.Prelude.{◌≡◌, ◌≢◌, ℕ, Bool, true, false, List, [], ◌∷◌, ◌++◌, length, min, sum_by, Option, None, option_map, ⊤}
use Rattle.std.specs.List.{AllByRecursion}
use Rattle.depot.specs.CollectionTurns.{TakesTurn, permits_collection, removed_in}
use Rattle.depot.specs.DepotView.{DepotView, IsGood}
use Rattle.depot.specs.declared.turn.Turn.{Turn}
use Rattle.depot.specs.declared.turn.Turn.TheVariants.{Began, Marked, Swept, Ended, Over, Refused}
use Rattle.library_rules.specs.Calls.{token_of}
use Rattle.library_state.specs.declared.refusal.Refusal.TheVariants as refusal
use Rattle.object_store.specs.Shelf.{Contents}
use Rattle.object_store.specs.declared.shelf.Slot.{Slot}
use Rattle.worker_server.specs.declared.host.Collected.{Collected}
use Rattle.worker_server.specs.declared.host.Collected.TheVariants as collected

-- a library alone, of whose turns nothing is noted
abbrev pub itself : {S : Type 0} → DepotView S → DepotView S
itself depot = depot

abbrev pub notes_nothing : {S : Type 0} → DepotView S → DepotView S → Type 0
notes_nothing old new = ⊤

-- the most objects of one turn
abbrev pub most_in_turn : ℕ
most_in_turn = 1000

-- the number of the collection that runs, if one does
abbrev pub number_running : {S : Type 0} → DepotView S → Option ℕ
number_running depot = option_map (λ running. depot.state.collection) depot.running

-- ---- turns

-- `view` is the library in what is collected, and `notes` what is noted of a turn beside it
module _ {V S : Type 0} (view : V → DepotView S) (notes : V → V → Type 0) (contents : S → Option Contents) (may_give : S → Slot → Option (List ℕ) → Type 0)
    (texts faults : S → ℕ) (shows : ℕ → Type 0) where
  -- these turns were taken one after another, each at a moment that the clock shows, and each but the first with the collection
  -- that the one before it left as its goal; and each was noted
  abbrev pub TurnsOn : V → Option ℕ → List Turn → V → Type 0
  TurnsOn u goal [] v = v ≡ u
  TurnsOn u goal (turn ∷ turns) v =
      (moment : ℕ) × (mid : V) × shows moment × TakesTurn contents may_give texts faults (view u) goal moment most_in_turn turn (view mid)
      × IsGood contents faults (view mid) × notes u mid × TurnsOn mid (number_running (view mid)) turns v

-- ---- what is told of them

-- whether another turn follows
abbrev pub goes_on : Turn → Bool
goes_on (Began number) = true
goes_on (Marked count) = true
goes_on (Swept keys) = true
goes_on (Ended number) = false
goes_on (Over number) = false
goes_on (Refused why keys) = false

-- how many objects turns removed
abbrev pub removed_by : List Turn → ℕ
removed_by turns = sum_by (λ turn. length (removed_in turn)) turns

-- as it is told in 64 bits
abbrev pub told_removed : List Turn → ℕ
told_removed turns = min 18446744073709551615 (removed_by turns)

-- what the last turn tells, where so many objects were removed. None is over: each goal is the collection that runs
abbrev pub EndsAs : Turn → ℕ → Collected → Type 0
EndsAs (Began number) removed ends = ⊥
EndsAs (Marked count) removed ends = ⊥
EndsAs (Swept keys) removed ends = ⊥
EndsAs (Ended number) removed ends = ends ≡ collected.Done number removed
EndsAs (Over number) removed ends = ⊥
EndsAs (Refused why keys) removed ends = ends ≡ collected.Refused why

-- the last of the turns ended the collection or was refused, and each before it went on; or no end came in as many turns as no
-- memory holds marks for
pub data TellsTurns (turns : List Turn) (ends : Collected) : Type 0 where
  ended : (before : List Turn) (last : Turn) → turns ≡ before ++ last ∷ [] → AllByRecursion (λ turn. goes_on turn ≡ true) before
      → EndsAs last (told_removed turns) ends → TellsTurns turns ends
  endless : AllByRecursion (λ turn. goes_on turn ≡ true) turns → length turns ≡ 18446744073709551615 → ends ≡ collected.Refused refusal.NoMemory
      → TellsTurns turns ends

-- ---- all of it

module _ {V S : Type 0} (view : V → DepotView S) (notes : V → V → Type 0) (contents : S → Option Contents) (may_give : S → Slot → Option (List ℕ) → Type 0)
    (texts faults : S → ℕ) (shows : ℕ → Type 0) where
  -- turns that tell this were taken, the first without a goal
  abbrev pub TakesTurns : V → Collected → V → Type 0
  TakesTurns old ends new = (turns : List Turn) × TurnsOn view notes contents may_give texts faults shows old None turns new × TellsTurns turns ends

  -- the library was collected, by one who may; or one who may not is denied; and there is no other library
  pub record CollectsBy (old : V) (lib : List ℕ) (secret : Option (List ℕ)) (ends : Collected) (new : V) : Type 0 where
    pub here : lib ≡ (view old).state.lib → permits_collection (token_of (view old).state.tokens secret) ≡ true → TakesTurns old ends new
    pub denied : lib ≡ (view old).state.lib → permits_collection (token_of (view old).state.tokens secret) ≡ false → (ends ≡ collected.Refused refusal.Denied) × (new ≡ old)
    pub elsewhere : lib ≢ (view old).state.lib → (ends ≡ collected.Refused refusal.NoLibrary) × (new ≡ old)
