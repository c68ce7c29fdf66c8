-- A hall as the host of a connection: what a pass shows, how a hall answers a call, a collection and a look, and what these leave in
-- the histories of its libraries. Our own. Read HallShown first, then hall_rules and Goes. Read before: AsksSo, SparesReading,
-- CollectsSo, GlancesSo and Lines of `sync_calls`, HostRules of `worker_server`.
use Rattle.std.specs.Prelude.{ℕ, ◌≡◌, ◌⊎◌, ◌+◌, ◌==◌, ◌≤◌, Bool, true, false, if◌then◌else◌, List, [], ◌∷◌, ◌++◌, Option, Some, ⊤}
use Rattle.std.specs.List.{slice_get}
use Rattle.library_state.specs.declared.call.Call.{Call}
use Rattle.library_state.specs.declared.refusal.Refusal.TheVariants as refusal
use Rattle.library_state.specs.declared.tag.Tag.{Tag}
use Rattle.object_store.specs.Shelf.{Contents}
use Rattle.object_store.specs.declared.shelf.Slot.{Slot}
use Rattle.sync_calls.specs.Asking.{AsksSo, IsAt, without_turn}
use Rattle.depot.specs.FirstGet.{fs_call}
use Rattle.depot.specs.declared.turn.Turn.{Turn}
use Rattle.depot.specs.declared.turn.Turn.TheVariants as turn
use Rattle.sync_calls.specs.Collecting.{CollectsSo, OneTurn, line_of}
use Rattle.sync_calls.specs.FirstAsking.{AsksTooMuch, SparesReading}
use Rattle.sync_calls.specs.Hall.{PassOf, StaySpent, drawn_by, shown_by}
use Rattle.sync_calls.specs.Looking.{GlancesSo}
use Rattle.sync_calls.specs.Operations.{Called, Deed, IsNew, Line, Lines, Looked, TookTurn}
use Rattle.sync_calls.specs.Shown.{Shown}
use Rattle.turnstile.specs.Rule.{most_turns}
use Rattle.sync_calls.specs.declared.asking.Answer.{Answer as HallAnswer}
use Rattle.sync_calls.specs.declared.collecting.Collected.{Collected as HallCollected}
use Rattle.sync_calls.specs.declared.collecting.Collected.TheVariants as hall_end
use Rattle.sync_calls.specs.declared.looking.Glance.{Glance}
use Rattle.sync_calls.specs.declared.looking.Glance.TheVariants as glance
use Rattle.worker_server.specs.Calls.{HostRules, Told, call_asked, collection_asked, look_asked, rules_at}
use Rattle.worker_server.specs.declared.host.Answer.{Answer}
use Rattle.worker_server.specs.declared.host.Collected.{Collected}
use Rattle.worker_server.specs.declared.host.Collected.TheVariants as collected

-- what a pass shows of each library, and the number last read of each lock's next ticket
pub record HallShown (S : Type 0) : Type 0 where
  pub libraries : List (Shown S)
  pub drawn : List ℕ

abbrev pub hall_shown : {S : Type 0} → PassOf S → HallShown S
hall_shown pass = record { libraries = shown_by pass; drawn = drawn_by pass }

-- how a host tells what a hall answers
abbrev pub host_answer : HallAnswer → Answer
host_answer given = record { reply = given.reply; opening = given.opening; place = given.place }

-- how a host tells what a hall tells of a collection
abbrev pub host_end : HallCollected → Collected
host_end (hall_end.Done number removed turns) = collected.Done number removed
host_end (hall_end.Refused why) = collected.Refused why

-- whether a look told that the library is still in the state of the tag
abbrev pub is_same : Glance → Bool
is_same glance.Same = true
is_same _ = false

module _ {S : Type 0} (contents : S → Option Contents) (may_give : S → Slot → Option (List ℕ) → Type 0) (texts faults : S → ℕ) where
  -- a call was asked of the hall. A lock that was read as spent stays so, as after a look and a collection
  abbrev pub AsksAt : HallShown S → List ℕ → Call → ℕ → Answer → List Line → HallShown S → Type 0
  AsksAt u lib call moment answer lines v =
      (given : HallAnswer) × AsksSo contents may_give texts faults u.libraries lib call moment given lines v.libraries v.drawn × StaySpent u.drawn v.drawn × (answer ≡ host_answer given)

  -- the first of these files and directories was asked for with all of them, which may have so many bytes together: where the library
  -- that stood in its turn knows them to have more, its answer is want of memory, and nothing is read
  abbrev pub SparesAt : HallShown S → List ℕ → Option (List ℕ) → List (List ℕ) → ℕ → Answer → List Line → HallShown S → Type 0
  SparesAt u lib secret [] most answer lines v = ⊤
  SparesAt u lib secret (id ∷ ids) most answer lines v =
      (moment : ℕ) × (given : HallAnswer) × (asks : AsksSo contents may_give texts faults u.libraries lib (fs_call secret id) moment given lines v.libraries v.drawn)
      × SparesReading (AsksTooMuch secret (id ∷ ids) most) asks × (answer ≡ host_answer given)

  -- it was looked whether a library is still in the state of a tag
  abbrev pub LooksAt : HallShown S → List ℕ → Option (List ℕ) → Tag → Bool → List Line → HallShown S → Type 0
  LooksAt u lib secret tag same lines v =
      (found : Glance) × GlancesSo contents may_give texts faults u.libraries lib secret tag found lines v.libraries × StaySpent u.drawn v.drawn × (same ≡ is_same found)

  -- a collection was asked of the hall, in turns at moments of this kind
  abbrev pub CollectsAt : (ℕ → Type 0) → HallShown S → List ℕ → Option (List ℕ) → Collected → List Line → HallShown S → Type 0
  CollectsAt shows u lib secret ends lines v =
      (end : HallCollected) × CollectsSo contents may_give texts faults shows u.libraries lib secret end lines v.libraries v.drawn × StaySpent u.drawn v.drawn × (ends ≡ host_end end)

  -- the rules by which a hall answers
  abbrev pub hall_rules : (ℕ → Type 0) → HostRules (HallShown S) Line
  hall_rules shows = rules_at shows AsksAt SparesAt CollectsAt LooksAt

-- ---- spent locks

-- the last turn of the lock of this library was drawn, as the pass has read
abbrev pub IsSpentOf : {S : Type 0} → HallShown S → List ℕ → Type 0
IsSpentOf {S} v lib = (library : ℕ) × (u : Shown S) × IsAt v.libraries lib library u × (slice_get v.drawn library ≡ Some most_turns)

-- a turn of a collection was refused as spent: one would begin behind the greatest number
abbrev pub IsSpentTurn : Turn → Type 0
IsSpentTurn (turn.Refused why keys) = why ≡ refusal.Spent
IsSpentTurn other = ⊥

-- so ends what was done
abbrev pub EndsAtLast : List Line → Type 0
EndsAtLast lines = (before : List Line) × (library : ℕ) × (one : OneTurn) × (lines ≡ before ++ line_of library one ∷ []) × IsSpentTurn one.turn

-- where a call was told, without a turn, that the lock of its library is spent, this view shows so of that lock; and so where a collection
-- was told it, unless its last turn was refused so
abbrev pub TellsSpentOf : {S : Type 0} → HallShown S → Told Line → Type 0
TellsSpentOf v (call_asked lib call answer lines) = answer ≡ host_answer (without_turn refusal.Spent) → lines ≡ [] → IsSpentOf v lib
TellsSpentOf v (collection_asked lib secret ends lines) = ends ≡ collected.Refused refusal.Spent → IsSpentOf v lib ⊎ EndsAtLast lines
TellsSpentOf v (look_asked lib secret tag same lines) = ⊤

-- all turns of the lock of this library were taken, as is shown
abbrev pub AreTakenOf : {S : Type 0} → List (Shown S) → List ℕ → Type 0
AreTakenOf {S} us lib = (library : ℕ) × (u : Shown S) × IsAt us lib library u × (most_turns ≤ u.turns)

-- where it was told so all turns of that lock were taken
abbrev pub TellsTakenOf : {S : Type 0} → List (Shown S) → Told Line → Type 0
TellsTakenOf us (call_asked lib call answer lines) = answer ≡ host_answer (without_turn refusal.Spent) → lines ≡ [] → AreTakenOf us lib
TellsTakenOf us (collection_asked lib secret ends lines) = ends ≡ collected.Refused refusal.Spent → AreTakenOf us lib ⊎ EndsAtLast lines
TellsTakenOf us (look_asked lib secret tag same lines) = ⊤

-- ---- operations

-- its place isn't before what was seen and looked at of its library
abbrev pub IsNewIn : {S : Type 0} → List (Shown S) → Line → Type 0
IsNewIn {S} us line = (u : Shown S) → slice_get us line.library ≡ Some u → IsNew u line.place

-- a turn of a collection told that it is over, which is no operation
abbrev pub is_over_turn : Turn → Bool
is_over_turn (turn.Over number) = true
is_over_turn _ = false

abbrev pub is_over : Deed → Bool
is_over (TookTurn goal moment most taken) = is_over_turn taken
is_over _ = false

-- the operations among what was done
abbrev pub without_over : List Line → List Line
without_over [] = []
without_over (line ∷ lines) = if is_over line.deed then without_over lines else line ∷ without_over lines

-- what is shown of the libraries goes on by these operations, in their order. Turns that only told that a collection is over may
-- stand between them
pub record Goes {S : Type 0} (contents : S → Option Contents) (may_give : S → Slot → Option (List ℕ) → Type 0) (texts faults : S → ℕ)
    (us : List (Shown S)) (lines : List Line) (vs : List (Shown S)) : Type 0 where
  pub all : List Line
  pub leads : Lines contents may_give texts faults us all vs
  pub told : lines ≡ without_over all

-- an operation takes one turn, but for a look, which takes none
abbrev pub turns_of : Deed → ℕ
turns_of (Called call moment r) = 1
turns_of (TookTurn goal moment most taken) = 1
turns_of Looked = 0

-- how many turns these took at this library
abbrev pub turns_at : ℕ → List Line → ℕ
turns_at library [] = 0
turns_at library (line ∷ lines) = (if line.library == library then turns_of line.deed else 0) + turns_at library lines
