-- What one turn of a collection does. Our own. Read TurnSo, then MayTurn.
use Rattle.std.specs.Prelude.{◌≡◌, ◌≢◌, ◌⊎◌, ◌≤◌, ◌<◌, ◌+◌, ◌==◌, if◌then◌else◌, ℕ, Bool, true, false, List, [], Option, None, Some, length, min, option_map, Ok, Err, IsTrue, ⊤}
use Rattle.std.specs.Bool.{MatchBool}
use Rattle.std.specs.FinMap as map
use Rattle.std.specs.FinSet as set
use Rattle.std.specs.List.{IsDistinct}
use Rattle.std.specs.Ordering.{eq_by_cmp}
use Rattle.ids.specs.FaultCount.{Rose}
use Rattle.ids.specs.Key.{Objects, key_cmp}
use Rattle.ids.specs.declared.key.Key.{Key}
use Rattle.ids.specs.declared.key.Kind.TheVariants.{Block}
use Rattle.library_rules.specs.CollectionSteps.{IsClean}
use Rattle.library_rules.specs.LibraryState.{Running, State, is_needed, is_stored, kept_commits, last_number}
use Rattle.library_rules.specs.Turns.{IsRefusedTurn, TakesStep}
use Rattle.library_rules.specs.declared.entry.Entry.{Entry}
use Rattle.library_rules.specs.declared.entry.Step.TheVariants as step
use Rattle.library_state.specs.declared.history.Install.{Install}
use Rattle.library_state.specs.declared.refusal.Refusal.{Refusal}
use Rattle.library_state.specs.declared.refusal.Refusal.TheVariants as refusal
use Rattle.library_state.specs.declared.reply.Reply.TheVariants.{Checked}
use Rattle.library_state.specs.declared.right.Right.{Right}
use Rattle.library_state.specs.declared.right.Right.TheVariants.{Owner}
use Rattle.library_state.specs.declared.state.LibState.{LibState}
use Rattle.library_state.specs.declared.token.Token.{Token}
use Rattle.object_graph.specs.Traversal.{is_in}
use Rattle.object_store.specs.Shelf.{Contents}
use Rattle.object_store.specs.Store.{is_free, damage_at}
use Rattle.object_store.specs.StoreView.{Index, StoreView, objects_of, status_of}
use Rattle.object_store.specs.declared.shelf.Slot.{Slot as ShelfSlot}
use Rattle.object_store.specs.declared.error.StoreFault.{StoreFault}
use Rattle.object_store.specs.declared.error.StoreFault.TheVariants as store_fault
use Rattle.depot.specs.Answering.{MayRefuseTree, is_free_refusal}
use Rattle.collector.specs.Marking.{HasMarked, IsMarkFault, MarksMany, MarksUpTo, IsDamageOfNeeded}
use Rattle.collector.specs.Marks.{AreFirst, AreMarks, HasTheSameMarks, IsExact, is_candidate, AreCompleteCommits}
use Rattle.collector.specs.Opened.{IsOpened, IsRead, OpensMore, anything}
use Rattle.collector.specs.Sweeping.{CountsSwept, StraysAtEnd, StraysIf, Took}
use Rattle.tree_walk.specs.Reading.{Reads}
use Rattle.tree_walk.specs.declared.fault.WalkFault.{WalkFault}
use Rattle.depot.specs.DepotView.{CollectionView, DepotView, state_of}
use Rattle.depot.specs.Giving.{GivesBy, IsOfSweep, IsOwnText}
pub use Rattle.depot.specs.NextState.{with_begin}
use Rattle.depot.specs.ObjectCalls.{IsToldDamageOf, is_of_store}
use Rattle.depot.specs.Refusals.{store_refusal, walk_refusal}
use Rattle.depot.specs.Writing.{IsWritten, LeftBy, Slot, settled}
use Rattle.depot.specs.declared.turn.Turn.{Turn}
use Rattle.depot.specs.declared.turn.Turn.TheVariants.{Began, Marked, Swept, Ended, Over, Refused}

-- ---- where the library is told

-- the collection of this number, which is the goal, doesn't run
pub record IsMissed (s : State) (goal : Option ℕ) (number : ℕ) : Type 0 where
  pub asked : goal ≡ Some number
  pub apart : option_map (λ running. s.state.collection) s.running ≢ Some number

-- one step at most: a begin, where none runs; a sweep of nothing, that marked some objects; a sweep of some keys; or an end, as
-- what is stored is needed or fresh
abbrev pub TurnSo : State → Option ℕ → (moment at_most : ℕ) → Turn → State → List Entry → Type 0
TurnSo s goal moment at_most (Began number) t es = (s.running ≡ None) × (number ≡ s.state.collection + 1) × TakesStep s step.Began moment Checked [] t es
TurnSo s goal moment at_most (Marked count) t es = (1 ≤ count) × (count ≤ at_most) × TakesStep s step.Swept moment Checked [] t es
TurnSo s goal moment at_most (Swept keys) t es = (keys ≢ []) × (length keys ≤ at_most) × TakesStep s step.Swept moment Checked keys t es
TurnSo s goal moment at_most (Ended number) t es = (number ≡ s.state.collection) × IsClean s × TakesStep s step.Ended moment Checked [] t es
TurnSo s goal moment at_most (Over number) t es = IsMissed s goal number × (t ≡ s) × (es ≡ [])
TurnSo s goal moment at_most (Refused why keys) t es = (length keys ≤ at_most) × IsRefusedTurn s moment why keys t es

-- the turn is such a one, and leaves what it leaves by its entries of the history
pub record TurnsBySome (s : State) (goal : Option ℕ) (moment at_most : ℕ) (turn : Turn) (after : Option State) : Type 0 where
  pub state : State
  pub entries : List Entry
  pub left : after ≡ Some state
  pub turns : TurnSo s goal moment at_most turn state entries

-- ---- over any shelf

-- whether a collection began
abbrev pub is_begin : Turn → Bool
is_begin (Began number) = true
is_begin other = false

-- the keys that a turn removed
abbrev pub removed_in : Turn → List Key
removed_in (Began number) = []
removed_in (Marked count) = []
removed_in (Swept keys) = keys
removed_in (Ended number) = []
removed_in (Over number) = []
removed_in (Refused why keys) = keys

-- what a turn leaves of the state that is written
abbrev pub state_after_turn : LibState → ℕ → Turn → LibState
state_after_turn state moment (Began number) = with_begin moment state
state_after_turn state moment (Marked count) = state
state_after_turn state moment (Swept keys) = state
state_after_turn state moment (Ended number) = state
state_after_turn state moment (Over number) = state
state_after_turn state moment (Refused why keys) = state

-- the collection after a turn: one that began over so many objects, with no fresh key; one turn more; or none
abbrev pub running_after_turn : ℕ → Option Running → Turn → Option Running
running_after_turn stored running (Began number) = Some (record { fresh = set.empty; stored = stored; turned = 0 })
running_after_turn stored running (Marked count) = option_map {T = Running} (λ (r : Running). record r { turned = r.turned + 1 }) running
running_after_turn stored running (Swept keys) = option_map {T = Running} (λ (r : Running). record r { turned = r.turned + 1 }) running
running_after_turn stored running (Ended number) = None
running_after_turn stored running (Over number) = running
running_after_turn stored running (Refused why keys) = running

-- how many objects are marked after a turn: none where a collection began or ended, and so many more where the turn tells
-- them; a turn that is refused may have marked some before its fault, and any other leaves them
abbrev pub CountsMarked : Turn → (before now : ℕ) → Type 0
CountsMarked (Began number) before now = now ≡ 0
CountsMarked (Marked count) before now = now ≡ before + count
CountsMarked (Swept keys) before now = now ≡ before
CountsMarked (Ended number) before now = now ≡ 0
CountsMarked (Over number) before now = now ≡ before
CountsMarked (Refused why keys) before now = before ≤ now

-- the collection of this number runs
abbrev pub IsRunning : Option Running → ℕ → ℕ → Type 0
IsRunning None collection number = ⊥
IsRunning (Some running) collection number = number ≡ collection

-- the causes of a refusal: where none runs, that the last number was given, and a failure of the shelf or want of memory; and
-- else what is wrong with stored objects, or a fault
abbrev pub MayRefuseTurn : Index → (ShelfSlot → Option (List ℕ) → Type 0) → Option Running → ℕ → Refusal → Type 0
MayRefuseTurn index may_give None collection refusal.Spent = last_number ≤ collection
MayRefuseTurn index may_give None collection why = IsTrue (is_free_refusal why)
MayRefuseTurn index may_give (Some running) collection why = MayRefuseTree index may_give why

-- which turns may come, with the number of the collection that runs
abbrev pub MayTurn : Index → (ShelfSlot → Option (List ℕ) → Type 0) → Option Running → ℕ → Option ℕ → Turn → Type 0
MayTurn index may_give running collection goal (Began number) = (goal ≡ None) × (running ≡ None) × (number ≡ collection + 1) × (collection < last_number)
MayTurn index may_give running collection goal (Marked count) = running ≢ None
MayTurn index may_give running collection goal (Swept keys) = running ≢ None
MayTurn index may_give running collection goal (Ended number) = IsRunning running collection number
MayTurn index may_give running collection goal (Over number) = (goal ≡ Some number) × (IsRunning running collection number → ⊥)
MayTurn index may_give running collection goal (Refused why keys) = MayRefuseTurn index may_give running collection why

-- no fresh key is among these; and where no collection runs, none is
abbrev pub NoneFresh : Option Running → List Key → Type 0
NoneFresh None keys = keys ≡ []
NoneFresh (Some running) keys = (key : Key) → is_in keys key ≡ true → set.contains running.fresh key ≡ false

-- the turn may come, and no fresh key leaves; it is over where the goal doesn't run, and spent where one would begin and the last number was given
pub record TurnsAsDue (index : Index) (may_give : ShelfSlot → Option (List ℕ) → Type 0) (running : Option Running) (collection : ℕ) (goal : Option ℕ) (turn : Turn) : Type 0 where
  pub may : MayTurn index may_give running collection goal turn
  pub unfresh : NoneFresh running (removed_in turn)
  pub over : (number : ℕ) → goal ≡ Some number → (IsRunning running collection number → ⊥) → turn ≡ Over number
  pub spent : goal ≡ None → running ≡ None → last_number ≤ collection → turn ≡ Refused refusal.Spent []

-- damage is told only of an object that is damaged
abbrev pub IsToldDamageIn : Objects → Turn → Type 0
IsToldDamageIn objects (Refused why keys) = IsToldDamageOf objects why
IsToldDamageIn objects other = ⊤

-- and of one that a kept commit needs; never of a block, since a collection reads none
abbrev pub IsToldNeeded : State → Turn → Type 0
IsToldNeeded s (Refused (refusal.Damaged want got) keys) =
    (key : Key) × (damage_at s.objects key ≡ Some (store_fault.Damaged want got)) × (is_needed s.objects s.state.kept key ≡ true) × (key.kind ≢ Block)
IsToldNeeded s other = ⊤

-- so many different objects were opened, each whole: the store knows it, and unless it is a block, the shelf may give its bytes under
-- its own name, and they can be read. Where the library is told, a kept commit needs each
pub record OpensMany {S : Type 0} (contents : S → Option Contents) (may_give : S → ShelfSlot → Option (List ℕ) → Type 0) (faults : S → ℕ) (old : DepotView S)
    (count : ℕ) : Type 0 where
  pub keys : List Key
  pub met : List Key
  pub size : length keys ≡ count
  pub once : IsDistinct (eq_by_cmp key_cmp) keys
  pub each : (key : Key) → is_in keys key ≡ true → IsOpened old.store.index (may_give old.store.shelf) met key
  pub needed : (s : State) → state_of contents faults old ≡ Some s → (key : Key) → is_in keys key ≡ true → is_needed s.objects s.state.kept key ≡ true

-- behind what leaves so many different objects are marked: each was read under its own name, unless it is a block; what it names is
-- marked too; and none of them leaves
pub record AreMarkedBehind (count : ℕ) (removed : List Key) : Type 0 where
  pub keys : List Key
  pub size : length keys ≡ count
  pub once : IsDistinct (eq_by_cmp key_cmp) keys
  pub read : (key : Key) → is_in keys key ≡ true → IsRead anything keys key
  pub stay : (key : Key) → is_in removed key ≡ true → is_in keys key ≡ false

-- what a turn opened: a marking as many objects as it tells; and where keys leave, or it ends, as many as are marked name nothing but
-- one another, and none of them leaves. Which objects these are is not said over a shelf that doesn't tell what it holds
abbrev pub OpensSo : {S : Type 0} → (S → Option Contents) → (S → ShelfSlot → Option (List ℕ) → Type 0) → (S → ℕ) → DepotView S → Turn → Type 0
OpensSo contents may_give faults old (Began number) = ⊤
OpensSo contents may_give faults old (Marked count) = OpensMany contents may_give faults old count
OpensSo contents may_give faults old (Swept keys) = AreMarkedBehind old.marked keys
OpensSo contents may_give faults old (Ended number) = AreMarkedBehind old.marked []
OpensSo contents may_give faults old (Over number) = ⊤
OpensSo contents may_give faults old (Refused why keys) = keys ≢ [] → AreMarkedBehind old.marked keys

-- whether a turn was refused by a failure that the shelf counts; only then the count rose
abbrev pub is_counted_turn : Turn → Bool
is_counted_turn (Refused why keys) = is_of_store why
is_counted_turn other = false

abbrev pub CountsTurn : ℕ → ℕ → Turn → Type 0
CountsTurn before now turn = MatchBool (is_counted_turn turn) ((before ≤ now) × Rose before now) (now ≡ before)

-- the present text was written, where that was open, and else nothing
abbrev pub IsSettledOnce : (unsettled : Bool) (present : LibState) (old : Slot) (still : Bool) (new : Slot) (before now : ℕ) → Type 0
IsSettledOnce unsettled present old still new before now = (still ≡ false) × (new ≡ settled unsettled present old) × (unsettled ≡ false → now ≡ before)

-- what the slot holds after a turn. A begin writes the text of the state that it makes, after the present one where that was
-- open; a sweep writes the present one, where that was open; and no other turn writes. After a begin that the shelf refused
-- it is open which of the two stands
abbrev pub TurnSlotSo : ℕ → Turn → (unsettled : Bool) (present : LibState) (old : Slot) (still : Bool) (new : Slot) (before now : ℕ) → Type 0
TurnSlotSo moment (Began number) unsettled present old still new before now =
    (still ≡ false) × IsWritten (with_begin moment present) (settled unsettled present old) new
TurnSlotSo moment (Marked count) unsettled present old still new before now = (still ≡ unsettled) × (new ≡ old) × (now ≡ before)
TurnSlotSo moment (Swept keys) unsettled present old still new before now = IsSettledOnce unsettled present old still new before now
TurnSlotSo moment (Ended number) unsettled present old still new before now = (still ≡ unsettled) × (new ≡ old) × (now ≡ before)
TurnSlotSo moment (Over number) unsettled present old still new before now = (still ≡ unsettled) × (new ≡ old) × (now ≡ before)
TurnSlotSo moment (Refused why keys) unsettled present old still new before now =
    ((still ≡ unsettled) × (new ≡ old) × (now ≡ before))
    ⊎ IsSettledOnce unsettled present old still new before now
    ⊎ ((fault : StoreFault) × (why ≡ store_refusal fault) × (keys ≡ []) × LeftBy fault unsettled present (with_begin moment present) old still new)

-- the present text stands before an object leaves: the slot was settled; or no object left, and the slot has that text or what it held
abbrev pub SettlesBefore : (unsettled : Bool) (present : LibState) (old : Slot) (still : Bool) (new : Slot) (removed : List Key) → Type 0
SettlesBefore unsettled present old still new removed =
    ((still ≡ false) × (new ≡ settled unsettled present old)) ⊎ ((removed ≡ []) × (still ≡ unsettled) × ((new ≡ old) ⊎ IsWritten present old new))

-- what a refused turn may lay: where the shelf failed or memory was wanting the present text, and nothing in the slots of the keys that left; and
-- for any other refusal, as one that is spent or met damage, nothing at all
abbrev pub MayLayRefused : List ℕ → Refusal → List Key → ShelfSlot → Option (List ℕ) → Type 0
MayLayRefused lib refusal.Store keys slot given = IsOfSweep lib keys slot given
MayLayRefused lib refusal.NoMemory keys slot given = IsOfSweep lib keys slot given
MayLayRefused lib other keys slot given = ⊥

-- what a turn on the library of this id may lay onto its shelf, beside what it might give before: a begin the text; a sweep
-- the present text, where it was open, and nothing in the slots of the keys that leave; a refused turn no more than these
abbrev pub MayLayIn : List ℕ → Turn → ShelfSlot → Option (List ℕ) → Type 0
MayLayIn lib (Began number) slot given = IsOwnText lib slot given
MayLayIn lib (Marked count) slot given = ⊥
MayLayIn lib (Swept keys) slot given = IsOfSweep lib keys slot given
MayLayIn lib (Ended number) slot given = ⊥
MayLayIn lib (Over number) slot given = ⊥
MayLayIn lib (Refused why keys) slot given = MayLayRefused lib why keys slot given

-- ---- who may collect

abbrev pub is_owner : Right → Bool
is_owner Owner = true
is_owner other = false

-- an owner's token may
abbrev pub permits_collection : Option Token → Bool
permits_collection None = false
permits_collection (Some token) = is_owner token.right

-- ---- all of it

-- what a turn does and leaves
pub record TakesTurn {S : Type 0} (contents : S → Option Contents) (may_give : S → ShelfSlot → Option (List ℕ) → Type 0) (texts faults : S → ℕ) (old : DepotView S)
    (goal : Option ℕ) (moment at_most : ℕ) (turn : Turn) (new : DepotView S) : Type 0 where
  pub told : (s : State) → state_of contents faults old ≡ Some s → TurnsBySome s goal moment at_most turn (state_of contents faults new)
  pub may_come : TurnsAsDue old.store.index (may_give new.store.shelf) old.running old.state.collection goal turn
  pub damage : (objects : Objects) → objects_of contents old.store ≡ Some objects → IsToldDamageIn objects turn
  pub needed : (s : State) → state_of contents faults old ≡ Some s → IsToldNeeded s turn
  pub count : CountsTurn (faults old.store.shelf) (faults new.store.shelf) turn
  pub left : new.state ≡ state_after_turn old.state moment turn
  pub runs : new.running ≡ running_after_turn (map.len old.store.index) old.running turn
  pub marked : CountsMarked turn old.marked new.marked
  pub index : (key : Key) → map.get new.store.index key ≡ (if is_in (removed_in turn) key then None else map.get old.store.index key)
  pub number : map.len new.store.index + length (removed_in turn) ≡ map.len old.store.index
  pub lying : StraysIf (is_counted_turn turn) contents old.store new.store (removed_in turn)
  pub gives : GivesBy (MayLayIn old.state.lib turn) (may_give old.store.shelf) (may_give new.store.shelf)
  pub slot : TurnSlotSo moment turn old.unsettled old.state (status_of contents old.store) new.unsettled (status_of contents new.store)
      (texts old.store.shelf) (texts new.store.shelf)
  pub beside : old.running ≢ None → SettlesBefore old.unsettled old.state (status_of contents old.store) new.unsettled (status_of contents new.store) (removed_in turn)

-- a turn without a goal, or with that of the collection that runs
abbrev pub IsAimed : Option ℕ → ℕ → Type 0
IsAimed None collection = ⊤
IsAimed (Some number) collection = number ≡ collection

-- the goal, where its collection doesn't run
abbrev pub missed : (running goal : Option ℕ) → Option ℕ
missed running None = None
missed None (Some number) = Some number
missed (Some other) (Some number) = if other == number then None else Some number

-- ---- for private clauses

abbrev pub is_end : Turn → Bool
is_end (Ended number) = true
is_end other = false

-- the collection after a turn that goes on with it
abbrev pub collection_after : Turn → CollectionView → Option CollectionView
collection_after (Ended number) collection = None
collection_after other collection = Some collection

abbrev pub turned_once : Running → Running
turned_once running = record running { turned = running.turned + 1 }

module _ {S : Type 0} (contents : S → Option Contents) (may_give : S → ShelfSlot → Option (List ℕ) → Type 0) (texts faults : S → ℕ) where
  -- why no object was marked: a fault of the commits or of the store, and no turn is counted
  pub record FailsMarking (old : StoreView S) (before : CollectionView) (why : Refusal) (new : StoreView S) (after : CollectionView) : Type 0 where
    pub fault : WalkFault
    pub refusal : why ≡ walk_refusal fault
    pub reads : Reads {T = ℕ} contents may_give texts faults old new (Err fault)
    pub cause : (objects : Objects) → objects_of contents old ≡ Some objects → IsExact objects before.marks → IsMarkFault objects before.marks.commits fault
    pub needed : (objects : Objects) → objects_of contents old ≡ Some objects → IsExact objects before.marks → AreCompleteCommits objects before.marks.commits
        → IsDamageOfNeeded objects before.marks.commits fault
    pub marks : (objects : Objects) → objects_of contents old ≡ Some objects → MarksUpTo objects before.marks after.marks
    pub left : HasMarked before.marks after.marks
    pub good : AreMarks after.marks
    pub same : after.running ≡ before.running

  -- so many objects were marked, and a turn more is counted
  pub record MarksSome (old : StoreView S) (before : CollectionView) (count : ℕ) (new : StoreView S) (after : CollectionView) : Type 0 where
    pub reads : Reads {T = ℕ} contents may_give texts faults old new (Ok count)
    pub opened : OpensMore old.index (may_give old.shelf) before.marks after.marks
    pub marks : (objects : Objects) → objects_of contents old ≡ Some objects → MarksMany objects before.marks after.marks count
    pub left : HasMarked before.marks after.marks
    pub size : length after.marks.marked ≡ length before.marks.marked + count
    pub good : AreMarks after.marks
    pub turned : after.running ≡ turned_once before.running

  abbrev pub MarksSo : StoreView S → CollectionView → ℕ → Turn → StoreView S → CollectionView → Type 0
  MarksSo old before at_most (Marked count) new after = (1 ≤ count) × (count ≤ at_most) × MarksSome old before count new after
  MarksSo old before at_most (Refused why keys) new after = (keys ≡ []) × FailsMarking old before why new after
  MarksSo old before at_most other new after = ⊥

  -- these keys left, with the count of turns and of faults that goes with it
  pub record SweepsKeys (old : StoreView S) (before : CollectionView) (keys : List Key) (running : Running) (fault : Option StoreFault)
      (new : StoreView S) (after : CollectionView) : Type 0 where
    pub took : Took contents old new before.marks.candidates after.marks.candidates keys
    pub same : HasTheSameMarks before.marks after.marks
    pub runs : after.running ≡ running
    pub lying : StraysAtEnd contents old new keys fault
    pub count : CountsSwept (faults old.shelf) (faults new.shelf) fault

  abbrev pub SweepsSo : StoreView S → CollectionView → ℕ → Turn → StoreView S → CollectionView → Type 0
  SweepsSo old before at_most (Swept keys) new after = (length keys ≡ min at_most (map.len before.marks.candidates))
      × SweepsKeys old before keys (turned_once before.running) None new after
  SweepsSo old before at_most (Refused why keys) new after = (length keys ≤ at_most)
      × (fault : StoreFault) × (why ≡ store_refusal fault) × IsTrue (is_free fault) × SweepsKeys old before keys before.running (Some fault) new after
  SweepsSo old before at_most other new after = ⊥

-- a collection that begins over an index, for the commits that these head updates keep
pub record BeginsSo (index : Index) (kept : List Install) (collection : CollectionView) : Type 0 where
  pub marks : AreFirst index (kept_commits kept) collection.marks
  pub good : AreMarks collection.marks
  pub runs : collection.running ≡ record { fresh = set.empty; stored = map.len index; turned = 0 }

-- and over the objects of the store, where they are told
pub record BeginsOver (objects : Objects) (collection : CollectionView) : Type 0 where
  pub stored : collection.running.stored ≡ map.len objects
  pub candidates : (key : Key) → is_candidate collection.marks key ≡ is_stored objects key
