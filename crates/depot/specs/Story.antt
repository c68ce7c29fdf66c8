-- The history of a library as a chain of libraries: each change has the library before it and the one after it, and is tied to
-- both by all that is said of its call or turn. Our own. Read LeadsTo, Links and IsSame first, then Runs, ComesBy and HistoryOf.
use Rattle.std.specs.Prelude.{◌≡◌, ◌⊎◌, ◌+◌, ◌≤◌, ℕ, List, [], ◌∷◌, ◌++◌, length, is_some, Option, None, Some, Result, IfSome, OnErr, OnOk, false, ⊤, refl}
use Rattle.std.specs.FinMap as map
use Rattle.std.specs.List.{slice_get}
use Rattle.std.proofs.Common.{inl}
use Rattle.ids.specs.Key.{Objects}
use Rattle.ids.specs.declared.key.Key.{Key}
use Rattle.library_rules.specs.Calls.{token_of}
use Rattle.library_rules.specs.History.{Legal, after}
use Rattle.library_rules.specs.LibraryState.{State}
use Rattle.library_rules.specs.declared.entry.Entry.{Entry}
use Rattle.library_rules.specs.declared.entry.Step.{Step}
use Rattle.library_rules.specs.declared.entry.Step.TheVariants as step
use Rattle.library_state.specs.declared.call.Call.{Call}
use Rattle.library_state.specs.declared.state.TheConstants.{MAX_STATE_NAME}
use Rattle.library_state.specs.declared.right.Right.{Right}
use Rattle.library_state.specs.declared.refusal.Refusal.TheVariants as refusal
use Rattle.library_state.specs.declared.reply.Reply.{Reply}
use Rattle.library_state.specs.declared.reply.Reply.TheVariants as reply
use Rattle.object_store.specs.Shelf.{Contents}
use Rattle.object_store.specs.StoreView.{objects_of, status_of}
use Rattle.object_store.specs.declared.shelf.Slot.{Slot}
use Rattle.depot.specs.Answering.{Serves, permits}
use Rattle.depot.specs.CollectionTurns.{TakesTurn, removed_in}
use Rattle.depot.specs.DepotView.{DepotView, IsGood, state_of}
use Rattle.depot.specs.Giving.{GivesBy, IsLaid, MayLay}
use Rattle.depot.specs.Held.{IndexSo}
use Rattle.depot.specs.NextState.{with_new_token}
use Rattle.depot.specs.Tokens.{store_answer, token_refusal}
use Rattle.depot.specs.Writing.{RewritesSo}
use Rattle.depot.specs.declared.error.TokenFault.{TokenFault}
use Rattle.depot.specs.declared.story.Change.{Change}
use Rattle.depot.specs.declared.story.Made.{Made}
use Rattle.depot.specs.declared.story.Made.TheVariants as made
use Rattle.depot.specs.declared.turn.Turn.{Turn}
use Rattle.depot.specs.declared.turn.Turn.TheVariants as turn

-- ---- one call, or one turn

-- the library answered: by the rules where its shelf tells what it holds, and over every shelf with its cause; one who may
-- not ask is denied whatever the shelf does; what is left stands for a library, where its shelf tells what it holds; the
-- shelf may give no more than before, but what the call may lay onto it; and no key leaves the index
pub record IsAnswered {S : Type 0} (contents : S → Option Contents) (may_give : S → Slot → Option (List ℕ) → Type 0) (texts faults : S → ℕ)
    (old : DepotView S) (call : Call) (moment : ℕ) (r : Reply) (new : DepotView S) : Type 0 where
  pub serves : Serves contents may_give texts faults old call moment r new
  pub denied : permits (token_of old.state.tokens call.secret) call.act ≡ false → r ≡ reply.Refused refusal.Denied
  pub good : IsGood contents faults new
  pub gives : GivesBy (MayLay old.state.lib call.act) (may_give old.store.shelf) (may_give new.store.shelf)
  pub index : IndexSo call.act r old.store.index new.store.index

-- a turn of a collection was taken, and what is left stands for a library, where its shelf tells what it holds
pub record IsTurned {S : Type 0} (contents : S → Option Contents) (may_give : S → Slot → Option (List ℕ) → Type 0) (texts faults : S → ℕ)
    (old : DepotView S) (goal : Option ℕ) (moment at_most : ℕ) (taken : Turn) (new : DepotView S) : Type 0 where
  pub takes : TakesTurn contents may_give texts faults old goal moment at_most taken new
  pub good : IsGood contents faults new

-- a token was to be added
pub record AddsToken {S : Type 0} (contents : S → Option Contents) (faults : S → ℕ) (old : DepotView S) (user secret : List ℕ) (right : Right)
    (result : Result ⊤ TokenFault) (new : DepotView S) : Type 0 where
  pub fits : (1 ≤ length user) × (length user ≤ MAX_STATE_NAME)
  pub ok : OnOk result (new.state ≡ with_new_token user secret right old.state)
  pub err : OnErr result (new.state ≡ old.state)
  pub stays : objects_of contents new.store ≡ objects_of contents old.store
  pub good : IsGood contents faults new
  pub text : IfSome (store_answer result) (RewritesSo old.unsettled old.state (with_new_token user secret right old.state)
      (status_of contents old.store) new.unsettled (status_of contents new.store))
  pub untouched : store_answer result ≡ None → new ≡ old
  pub asked : IfSome (store_answer result) (λ answer. token_refusal old.state.tokens secret ≡ None)

-- ---- whether a library changed

-- what has its place in a history is as it was: the state that is written, the collection that runs, the count of faults, the
-- keys of the index, and the objects, where they are told. Whether the text is open, and how many objects are marked, may be
-- otherwise
pub record IsSame {S : Type 0} (contents : S → Option Contents) (faults : S → ℕ) (old new : DepotView S) : Type 0 where
  pub state : new.state ≡ old.state
  pub running : new.running ≡ old.running
  pub count : faults new.store.shelf ≡ faults old.store.shelf
  pub keys : (key : Key) → is_some (map.get new.store.index key) ≡ is_some (map.get old.store.index key)
  pub objects : (held : Objects) → objects_of contents old.store ≡ Some held → objects_of contents new.store ≡ Some held

-- something of it is not: where the library is told it is another, and over any shelf it isn't the same
pub record IsOther {S : Type 0} (contents : S → Option Contents) (faults : S → ℕ) (old new : DepotView S) : Type 0 where
  pub told : (s : State) → state_of contents faults old ≡ Some s → state_of contents faults new ≡ Some s → ⊥
  pub any : IsSame contents faults old new → ⊥

-- ---- what is done with a library

-- a call was answered, a turn of a collection was taken, or a token was to be added
pub data Done : Type 0 where
  answered : (call : Call) (moment : ℕ) (said : Reply) → Done
  turned : (goal : Option ℕ) (moment at_most : ℕ) (taken : Turn) → Done
  given_token : (user secret : List ℕ) (right : Right) (result : Result ⊤ TokenFault) → Done

-- a call or a turn
abbrev pub IsAsked : Done → Type 0
IsAsked (answered call moment said) = ⊤
IsAsked (turned goal moment at_most taken) = ⊤
IsAsked (given_token user secret right result) = ⊥

-- what made a change, and when, is this
abbrev pub IsMadeAs : Made → ℕ → Done → Type 0
IsMadeAs (made.Asked call said) at (answered c moment r) = (call.value ≡ c) × (said.value ≡ r) × (at ≡ moment)
IsMadeAs (made.Turned goal most taken) at (turned g moment m turn) = (goal ≡ g) × (most ≡ m) × (taken.value ≡ turn) × (at ≡ moment)
IsMadeAs other at done = ⊥

-- the keys that left by what made a change, and through some changes
abbrev pub removed_of : Made → List Key
removed_of (made.Asked call said) = []
removed_of (made.Turned goal at_most taken) = removed_in taken.value

abbrev pub removed_through : {V : Type 0} → List (Change V) → List Key
removed_through [] = []
removed_through (change ∷ changes) = removed_of change.made ++ removed_through changes

-- ---- a chain of changes

module _ {S : Type 0} (contents : S → Option Contents) (may_give : S → Slot → Option (List ℕ) → Type 0) (texts faults : S → ℕ) where
  -- the change was made so: a call was answered, or a turn was taken
  abbrev pub MadeBy : Made → DepotView S → ℕ → DepotView S → Type 0
  MadeBy (made.Asked call said) old moment new = IsAnswered contents may_give texts faults old call.value moment said.value new
  MadeBy (made.Turned goal at_most taken) old moment new = IsTurned contents may_give texts faults old goal moment at_most taken.value new

  -- a change links the library before it to the one after it, which is another
  pub record Links (change : Change (DepotView S)) : Type 0 where
    pub by : MadeBy change.made change.before.value change.moment change.after.value
    pub other : IsOther contents faults change.before.value change.after.value

  -- these changes, in their order, lead from one library to another: each one's library before it is the same as the one that
  -- those before it lead to
  abbrev pub LeadsTo : DepotView S → List (Change (DepotView S)) → DepotView S → Type 0
  LeadsTo old [] new = IsSame contents faults old new
  LeadsTo old (change ∷ changes) new = IsSame contents faults old change.before.value × Links change × LeadsTo change.after.value changes new

  -- ---- all that was done, what changed nothing too

  -- this was done with a library, and left that one
  abbrev pub IsDoneSo : DepotView S → Done → DepotView S → Type 0
  IsDoneSo old (answered call moment said) new = IsAnswered contents may_give texts faults old call moment said new
  IsDoneSo old (turned goal moment at_most taken) new = IsTurned contents may_give texts faults old goal moment at_most taken new
  IsDoneSo old (given_token user secret right result) new = AddsToken contents faults old user secret right result new

  -- these were done one after another, the last one first
  abbrev pub Runs : DepotView S → List Done → DepotView S → Type 0
  Runs start [] now = now ≡ start
  Runs start (done ∷ earlier) now = (between : DepotView S) × Runs start earlier between × IsDoneSo between done now

  -- what was done last left another library, which is the last change
  pub record IsLastChange (between : DepotView S) (done : Done) (now : DepotView S) (earlier changes : List (Change (DepotView S))) : Type 0 where
    pub change : Change (DepotView S)
    pub is : changes ≡ earlier ++ change ∷ []
    pub from : change.before.value ≡ between
    pub made : IsMadeAs change.made change.moment done
    pub to : change.after.value ≡ now

  -- the changes are what left another library of all that was done. No token is added meanwhile
  abbrev pub AreChangesOf : (start : DepotView S) (dones : List Done) (now : DepotView S) → Runs start dones now → List (Change (DepotView S)) → Type 0
  AreChangesOf start [] now runs changes = changes ≡ []
  AreChangesOf start (done ∷ earlier) now runs changes =
      (IsAsked done × IsSame contents faults runs.0 now × AreChangesOf start earlier runs.0 runs.1 changes)
      ⊎ ((before : List (Change (DepotView S))) × IsLastChange runs.0 done now before changes × AreChangesOf start earlier runs.0 runs.1 before)

  -- calls and turns led from one library to another, of which these are the changes
  pub record RanBy (old : DepotView S) (changes : List (Change (DepotView S))) (new : DepotView S) : Type 0 where
    pub dones : List Done
    pub runs : Runs old dones new
    pub are : AreChangesOf old dones new runs changes

  -- a library comes of another by these changes: they lead to it; its shelf may give no more than that of the other one, but what
  -- calls and turns may lay; and the changes are those of all that was done with it, so that its text is open to what its last calls say
  pub record ComesBy (old : DepotView S) (changes : List (Change (DepotView S))) (new : DepotView S) : Type 0 where
    pub leads : LeadsTo old changes new
    pub gives : GivesBy (IsLaid old.state.lib (removed_through changes)) (may_give old.store.shelf) (may_give new.store.shelf)
    pub ran : RanBy old changes new

-- each library is the same as itself
pub same_itself : {S : Type 0} (contents : S → Option Contents) (faults : S → ℕ) (x : DepotView S) → IsSame contents faults x x
same_itself contents faults x = record { state = refl; running = refl; count = refl; keys = λ key. refl; objects = λ objects told. told }

-- and comes of itself by none
pub comes_itself : {S : Type 0} (contents : S → Option Contents) (may_give : S → Slot → Option (List ℕ) → Type 0) (texts faults : S → ℕ) (x : DepotView S)
    → ComesBy contents may_give texts faults x [] x
comes_itself contents may_give texts faults x = record {
  leads = same_itself contents faults x;
  gives = λ slot given now. inl now;
  ran = record { dones = []; runs = refl; are = refl };
}

-- ---- the history that a chain is, where libraries are told

-- the step of a turn: objects that are marked are a sweep that removes nothing, and so is a turn that is refused
abbrev pub step_of_turn : Turn → Step
step_of_turn (turn.Began number) = step.Began
step_of_turn (turn.Marked count) = step.Swept
step_of_turn (turn.Swept keys) = step.Swept
step_of_turn (turn.Ended number) = step.Ended
step_of_turn (turn.Over number) = step.Swept
step_of_turn (turn.Refused why keys) = step.Swept

-- the answer to a turn
abbrev pub reply_of_turn : Turn → Reply
reply_of_turn (turn.Refused why keys) = reply.Refused why
reply_of_turn other = reply.Checked

-- the step, and the answer
abbrev pub step_of : Made → Step
step_of (made.Asked call said) = step.Asked call.value
step_of (made.Turned goal at_most taken) = step_of_turn taken.value

abbrev pub reply_of : Made → Reply
reply_of (made.Asked call said) = said.value
reply_of (made.Turned goal at_most taken) = reply_of_turn taken.value

-- the entry is that of the change
pub record IsEntryOf {V : Type 0} (change : Change V) (e : Entry) : Type 0 where
  pub is_step : e.step ≡ step_of change.made
  pub at : e.moment ≡ change.moment
  pub answers : e.reply ≡ reply_of change.made
  pub removes : e.removed ≡ removed_of change.made

-- these are the entries of the changes, in their order
abbrev pub AreEntriesOf : {V : Type 0} → List (Change V) → List Entry → Type 0
AreEntriesOf [] [] = ⊤
AreEntriesOf [] (e ∷ es) = ⊥
AreEntriesOf (change ∷ changes) [] = ⊥
AreEntriesOf (change ∷ changes) (e ∷ es) = IsEntryOf change e × AreEntriesOf changes es

-- the changes from a state to a library are a legal list of entries, one for each change: the library after a change is the
-- state after so many entries, and the last one that after all of them
pub record HistoryOf {S : Type 0} (contents : S → Option Contents) (faults : S → ℕ) (s : State) (changes : List (Change (DepotView S))) (new : DepotView S) : Type 0 where
  pub entries : List Entry
  pub legal : Legal s entries
  pub told : AreEntriesOf changes entries
  pub states : (n : ℕ) (change : Change (DepotView S)) → slice_get changes n ≡ Some change
      → state_of contents faults change.after.value ≡ Some (after s entries (n + 1))
  pub last : state_of contents faults new ≡ Some (after s entries (length entries))
