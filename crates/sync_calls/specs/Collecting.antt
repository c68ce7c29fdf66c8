-- What a collection that is asked of a hall does: turns at one library, one after another, until it ended or one was refused. Our
-- own. Read CollectsSo, then EndsSo, TurnsOn and IsEndSeen.
use Rattle.std.specs.Prelude.{◌≡◌, ℕ, ◌+◌, ◌<◌, ◌≤◌, Bool, true, false, min, List, [], ◌∷◌, ◌++◌, length, slice_set, sum_by, map as map_list, Option, None, Some, ⊤}
use Rattle.std.specs.List.{slice_get}
use Rattle.library_rules.specs.Calls.{token_of}
use Rattle.library_rules.specs.LibraryState.{Running}
use Rattle.library_state.specs.declared.refusal.Refusal.TheVariants as refusal
use Rattle.object_store.specs.Shelf.{Contents}
use Rattle.object_store.specs.declared.shelf.Slot.{Slot}
use Rattle.depot.specs.CollectionTurns.{permits_collection, removed_in}
use Rattle.depot.specs.DepotView.{DepotView}
use Rattle.depot.specs.declared.story.Change.{Change}
use Rattle.depot.specs.declared.story.Made.{Made}
use Rattle.depot.specs.declared.story.Made.TheVariants as made
use Rattle.depot.specs.declared.turn.Turn.{Turn}
use Rattle.depot.specs.declared.turn.Turn.TheVariants as turn
use Rattle.turnstile.specs.Rule.{most_turns}
use Rattle.sync_calls.specs.Asking.{IsAt, IsNowhere}
use Rattle.sync_calls.specs.CollectTurn.{RunsAt}
use Rattle.sync_calls.specs.Operations.{Deed, IsDone, Line, TookTurn}
use Rattle.sync_calls.specs.Shown.{Shown, library_at}
use Rattle.sync_calls.specs.declared.collecting.Collected.{Collected}
use Rattle.sync_calls.specs.declared.collecting.Collected.TheVariants as collected
use Rattle.sync_calls.specs.declared.collecting.SoFar.{SoFar}
use Rattle.sync_calls.specs.declared.collecting.Step.{Step}
use Rattle.sync_calls.specs.declared.collecting.Step.TheVariants as step

-- how many objects one turn may handle
abbrev pub objects_a_turn : ℕ
objects_a_turn = 1000

-- who may ask for it, by the library as it began: an owner
abbrev pub collects : {S : Type 0} → Option (DepotView S) → Option (List ℕ) → Bool
collects None secret = false
collects (Some depot) secret = permits_collection (token_of depot.state.tokens secret)

-- ---- turns

-- one turn: with which goal, at which place of the history, when, and what it did
pub record OneTurn : Type 0 where
  pub goal : Option ℕ
  pub place : ℕ
  pub moment : ℕ
  pub turn : Turn

-- what it is in the record of operations
abbrev pub deed_of : OneTurn → Deed
deed_of one = TookTurn one.goal one.moment objects_a_turn one.turn

abbrev pub line_of : ℕ → OneTurn → Line
line_of library one = record { library = library; place = one.place; deed = deed_of one }

abbrev pub lines_of : ℕ → List OneTurn → List Line
lines_of library turns = map_list (line_of library) turns

-- whether another turn follows
abbrev pub goes_on : Turn → Bool
goes_on (turn.Began number) = true
goes_on (turn.Marked count) = true
goes_on (turn.Swept keys) = true
goes_on (turn.Ended number) = false
goes_on (turn.Over number) = false
goes_on (turn.Refused why keys) = false

-- how many keys left in turns
abbrev pub left_by : List OneTurn → ℕ
left_by turns = sum_by (λ (one : OneTurn). length (removed_in one.turn)) turns

-- as a number is told in 64 bits
abbrev pub told : ℕ → ℕ
told count = min 18446744073709551615 count

-- where the first of them was taken
abbrev pub first_place : List OneTurn → ℕ
first_place [] = 0
first_place (one ∷ more) = one.place

-- ---- the end of a collection

-- a turn ended the collection of this number
abbrev pub EndsIt : Made → ℕ → Type 0
EndsIt (made.Turned goal most taken) number = taken.value ≡ turn.Ended number
EndsIt (made.Asked call said) number = ⊥

-- its end stands in what was seen, at this place or behind it
pub record HasEnded {S : Type 0} (from number : ℕ) (v : Shown S) : Type 0 where
  pub place : ℕ
  pub behind : from ≤ place
  pub change : Change (DepotView S)
  pub at : slice_get v.seen place ≡ Some change
  pub ends : EndsIt change.made number

-- what is told as done has its end in what was seen, not before the first of these turns
abbrev pub IsEndSeen : {S : Type 0} → List OneTurn → Collected → Shown S → Type 0
IsEndSeen turns (collected.Done number removed taken) v = HasEnded (first_place turns) number v
IsEndSeen turns (collected.Refused why) v = ⊤

-- what the last turn tells, where so many keys left in so many turns
abbrev pub EndsAs : Turn → (left taken : ℕ) → Collected → Type 0
EndsAs (turn.Ended number) left taken ends = ends ≡ collected.Done number (told left) (told taken)
EndsAs (turn.Refused why keys) left taken ends = ends ≡ collected.Refused why
EndsAs other left taken ends = ⊥

module _ {S : Type 0} (contents : S → Option Contents) (may_give : S → Slot → Option (List ℕ) → Type 0) (texts faults : S → ℕ) (shows : ℕ → Type 0) where
  -- a turn was taken with this goal, at a moment that the clock shows
  pub record IsTaken (u : Shown S) (goal : Option ℕ) (one : OneTurn) (v : Shown S) : Type 0 where
    pub aimed : one.goal ≡ goal
    pub shown : shows one.moment
    pub done : IsDone contents may_give texts faults u one.place (deed_of one) v

  -- the goal of the turn that follows: that of this one, or where it had none the collection that ran as it ended
  abbrev pub IsNextGoal : Option ℕ → Shown S → Option ℕ → Type 0
  IsNextGoal None v next = RunsAt v next
  IsNextGoal (Some number) v next = next ≡ Some number

  -- turns were taken one after another, each of which went on: the first with this goal; and the goal of the one that follows
  abbrev pub TurnsOn : Shown S → Option ℕ → List OneTurn → Shown S → Option ℕ → Type 0
  TurnsOn u goal [] v last = (v ≡ u) × (last ≡ goal)
  TurnsOn u goal (one ∷ more) v last =
      (w : Shown S) × (next : Option ℕ) × IsTaken u goal one w × (goes_on one.turn ≡ true) × IsNextGoal goal w next × TurnsOn w next more v last

  -- how it ended: a turn ended the collection or was refused; or one was over, since another pass had ended it, and is not among
  -- those told; or the last turn of the lock was drawn, as the pass has read
  pub data EndsSo (u : Shown S) (ends : Collected) (turns : List OneTurn) (v : Shown S) (drawn : ℕ) : Type 0 where
    ended : (before : List OneTurn) (goal : Option ℕ) (w : Shown S) (last : OneTurn) → TurnsOn u None before w goal → IsTaken w goal last v
        → drawn < most_turns → turns ≡ before ++ last ∷ [] → EndsAs last.turn (left_by turns) (length turns) ends → EndsSo u ends turns v drawn
    over : (number : ℕ) (w : Shown S) (last : OneTurn) → TurnsOn u None turns w (Some number) → IsTaken w (Some number) last v → drawn < most_turns
        → last.turn ≡ turn.Over number → ends ≡ collected.Done number (told (left_by turns)) (told (length turns + 1)) → EndsSo u ends turns v drawn
    spent : (goal : Option ℕ) → TurnsOn u None turns v goal → drawn ≡ most_turns → ends ≡ collected.Refused refusal.Spent → EndsSo u ends turns v drawn

  -- there is no such library; or who asks may not, by the tokens with which the library began; or turns were taken at it alone,
  -- with one line for each that wasn't over
  pub data CollectsSo (us : List (Shown S)) (lib : List ℕ) (secret : Option (List ℕ)) (ends : Collected) (lines : List Line) (vs : List (Shown S)) (draws : List ℕ) : Type 0 where
    nowhere : IsNowhere us lib → ends ≡ collected.Refused refusal.NoLibrary → lines ≡ [] → vs ≡ us → CollectsSo us lib secret ends lines vs draws
    denied : (library : ℕ) (u : Shown S) → IsAt us lib library u → collects u.start secret ≡ false → ends ≡ collected.Refused refusal.Denied → lines ≡ [] → vs ≡ us
        → CollectsSo us lib secret ends lines vs draws
    went : (library : ℕ) (u : Shown S) → IsAt us lib library u → collects u.start secret ≡ true → (turns : List OneTurn) (v : Shown S) (drawn : ℕ)
        → EndsSo u ends turns v drawn → IsEndSeen turns ends v → slice_get draws library ≡ Some drawn → lines ≡ lines_of library turns → vs ≡ slice_set us library v
        → CollectsSo us lib secret ends lines vs draws

  -- the same of one library, for private clauses
  pub data CollectsOne (u : Shown S) (secret : Option (List ℕ)) (ends : Collected) (v : Shown S) (drawn : ℕ) : Type 0 where
    denied : collects u.start secret ≡ false → ends ≡ collected.Refused refusal.Denied → v ≡ u → CollectsOne u secret ends v drawn
    went : collects u.start secret ≡ true → (turns : List OneTurn) → EndsSo u ends turns v drawn → IsEndSeen turns ends v → CollectsOne u secret ends v drawn

-- ---- how many turns

-- the collection that is the goal was begun over so many objects, as some place of the history tells
pub record RunsOver {S : Type 0} (goal : Option ℕ) (stored : ℕ) (v : Shown S) : Type 0 where
  pub number : ℕ
  pub aimed : goal ≡ Some number
  pub place : ℕ
  pub depot : DepotView S
  pub at : library_at v place ≡ Some depot
  pub running : Running
  pub runs : depot.running ≡ Some running
  pub number_is : number ≡ depot.state.collection
  pub stored_is : running.stored ≡ stored

-- so was the one with which the turns behind the first go on, where there are any
abbrev pub GoesOnOver : {S : Type 0} → List OneTurn → ℕ → Shown S → Type 0
GoesOnOver [] stored v = ⊤
GoesOnOver (one ∷ []) stored v = ⊤
GoesOnOver (one ∷ two ∷ more) stored v = RunsOver two.goal stored v

-- ---- for private clauses: one turn more

-- the goal of the turn that follows
abbrev pub next_goal : Option ℕ → Option ℕ → Option ℕ
next_goal None running = running
next_goal (Some number) running = Some number

-- what the end tells, after so much
abbrev pub EndsAfter : Turn → SoFar → Collected → Type 0
EndsAfter (turn.Ended number) so_far ends = ends ≡ collected.Done number so_far.removed (told (so_far.turns + 1))
EndsAfter (turn.Over number) so_far ends = ends ≡ collected.Done number so_far.removed (told (so_far.turns + 1))
EndsAfter (turn.Refused why keys) so_far ends = ends ≡ collected.Refused why
EndsAfter other so_far ends = ⊥

-- what follows a turn: another, or the end
abbrev pub StepsSo : Turn → Option ℕ → SoFar → Step → Type 0
StepsSo taken running so_far (step.Goes more) =
    (goes_on taken ≡ true) × (more.goal ≡ next_goal so_far.goal running) × (more.removed ≡ told (so_far.removed + length (removed_in taken))) × (more.turns ≡ told (so_far.turns + 1))
StepsSo taken running so_far (step.Ends ends) = EndsAfter taken so_far ends

-- a turn was taken, or the last one was drawn
pub data TurnsOnce {S : Type 0} (contents : S → Option Contents) (may_give : S → Slot → Option (List ℕ) → Type 0) (texts faults : S → ℕ) (shows : ℕ → Type 0)
    (w : Shown S) (so_far : SoFar) (follows : Step) (v : Shown S) (drawn : ℕ) : Type 0 where
  took : (one : OneTurn) (running : Option ℕ) → IsTaken contents may_give texts faults shows w so_far.goal one v → RunsAt v running → drawn < most_turns
      → StepsSo one.turn running so_far follows → TurnsOnce contents may_give texts faults shows w so_far follows v drawn
  spent : drawn ≡ most_turns → v ≡ w → follows ≡ step.Ends (collected.Refused refusal.Spent) → TurnsOnce contents may_give texts faults shows w so_far follows v drawn
