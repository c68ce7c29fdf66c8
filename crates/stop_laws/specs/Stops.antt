-- What the shelf of a library stands for as each call returns, through failures of the shelf. A stop is a failure after which
-- no call of the shelf does anything. Our own. Read WouldMake and Leaves first, then IsOpen and Stood, then WasRefused and AllKeep. Read
-- before: Done, Runs and ComesBy of `depot`.
use Rattle.std.specs.Prelude.{◌≡◌, ◌⊎◌, ℕ, Bool, true, false, List, [], ◌∷◌, ◌++◌, Option, None, Err, ⊤}
use Rattle.std.specs.List.{AllByRecursion}
use Rattle.library_rules.specs.Changes.{is_refused}
use Rattle.library_rules.specs.LibraryState.{IsSound, State, is_kept}
use Rattle.library_rules.specs.Recovery.{StandsFor}
use Rattle.library_state.specs.Retention.{kept_for}
use Rattle.library_state.specs.declared.call.Call.{Call}
use Rattle.library_state.specs.declared.refusal.Refusal.TheVariants as refusal
use Rattle.library_state.specs.declared.reply.Reply.{Reply}
use Rattle.library_state.specs.declared.reply.Reply.TheVariants as reply
use Rattle.library_state.specs.declared.state.LibState.{LibState}
use Rattle.object_store.specs.Shelf.{Contents}
use Rattle.object_store.specs.StoreView.{status_of}
use Rattle.object_store.specs.declared.error.StoreFault.TheVariants.{Shelf}
use Rattle.object_store.specs.declared.shelf.Slot.{Slot}
use Rattle.depot.specs.Answering.{Would}
use Rattle.depot.specs.DepotView.{DepotView, library}
use Rattle.depot.specs.NextState.{next_state, with_begin, with_new_token}
use Rattle.depot.specs.Standing.{StandsForNext}
use Rattle.depot.specs.Story.{Done, answered, turned, given_token, IsMadeAs, Runs}
use Rattle.depot.specs.declared.error.TokenFault.TheVariants as token
use Rattle.depot.specs.declared.story.Change.{Change}
use Rattle.depot.specs.declared.turn.Turn.TheVariants as turn

-- ---- what a refused call would have made

-- what a call that the shelf refused would have made of the state, by an answer that it could have
pub record WouldAnswer {S : Type 0} (contents : S → Option Contents) (faults : S → ℕ) (old : DepotView S) (call : Call) (moment : ℕ) (r : Reply) (next : LibState) : Type 0 where
  pub failed : r ≡ reply.Refused refusal.Store
  pub said : Reply
  pub plain : is_refused said ≡ false
  pub could : Would contents faults old call moment said
  pub makes : next_state old.state call moment said ≡ next

module _ {S : Type 0} (contents : S → Option Contents) (may_give : S → Slot → Option (List ℕ) → Type 0) (texts faults : S → ℕ) where
  -- the state of which the text was to be written as the shelf failed
  abbrev pub WouldMake : DepotView S → Done → LibState → Type 0
  WouldMake old (answered call moment said) next = WouldAnswer contents faults old call moment said next
  WouldMake old (turned goal moment at_most taken) next = (taken ≡ turn.Refused refusal.Store []) × (old.running ≡ None) × (next ≡ with_begin moment old.state)
  WouldMake old (given_token user secret right result) next = (result ≡ Err (token.Store Shelf)) × (next ≡ with_new_token user secret right old.state)

-- ---- as one call returns

-- the shelf stands for the library of this state, over the objects of the present one, and that is sound
pub record StandsForState (held : Contents) (t : State) (next : LibState) : Type 0 where
  pub sound : IsSound (library next t.faults t.objects)
  pub stands : StandsFor held.status held.objects (library next t.faults t.objects)

-- what the shelf stands for: the library as it is; or, while the text is open, what it was open to before, where no text was written
-- since; or what the refused call would have made
pub data Leaves (would : LibState → Type 0) (before : Option (List ℕ)) (held : Contents) (was still : Bool) (t : State) : Type 0 where
  present : StandsFor held.status held.objects t → Leaves would before held was still t
  open_before : was ≡ true → still ≡ true → held.status ≡ before → StandsForNext held t → Leaves would before held was still t
  would_be : still ≡ true → (next : LibState) → would next → StandsForState held t next → Leaves would before held was still t

-- ---- one call after another

module _ {S : Type 0} (contents : S → Option Contents) (may_give : S → Slot → Option (List ℕ) → Type 0) (texts faults : S → ℕ) where
  -- the text is open to this state: the last of these would have made it, as the shelf failed; or it was open to it before, and
  -- no text was written since
  abbrev pub IsOpen : (start : DepotView S) (dones : List Done) (now : DepotView S) → Runs contents may_give texts faults start dones now → LibState → Type 0
  IsOpen start [] now runs next = ⊥
  IsOpen start (done ∷ earlier) now runs next = WouldMake contents may_give texts faults runs.0 done next
      ⊎ ((runs.0.unsettled ≡ true) × (status_of contents now.store ≡ status_of contents runs.0.store) × IsOpen start earlier runs.0 runs.1 next)

  -- what the shelf stands for after all of these: the library, or a state to which its text is open
  pub data Stood (start : DepotView S) (dones : List Done) (now : DepotView S) (runs : Runs contents may_give texts faults start dones now) (held : Contents) (t : State) : Type 0 where
    stands : StandsFor held.status held.objects t → Stood start dones now runs held t
    open_to : now.unsettled ≡ true → (next : LibState) → IsOpen start dones now runs next → StandsForState held t next → Stood start dones now runs held t

  -- no begin of a collection, done or refused by the shelf, cuts the commit away
  abbrev pub KeepsCommit : DepotView S → Done → List ℕ → Type 0
  KeepsCommit old (answered call moment said) commit = ⊤
  KeepsCommit old (turned goal moment at_most (turn.Began number)) commit = is_kept (kept_for old.state.days moment old.state.kept) commit ≡ true
  KeepsCommit old (turned goal moment at_most (turn.Refused why keys)) commit =
      why ≡ refusal.Store → old.running ≡ None → is_kept (kept_for old.state.days moment old.state.kept) commit ≡ true
  KeepsCommit old (turned goal moment at_most other) commit = ⊤
  KeepsCommit old (given_token user secret right result) commit = ⊤

  abbrev pub Retains : (start : DepotView S) (dones : List Done) (now : DepotView S) → Runs contents may_give texts faults start dones now → List ℕ → Type 0
  Retains start [] now runs commit = ⊤
  Retains start (done ∷ earlier) now runs commit = Retains start earlier runs.0 runs.1 commit × KeepsCommit runs.0 done commit

  -- ---- through a history

  -- one of these changes is a call or turn that would have made this state, as the shelf failed
  pub record WasRefused (changes : List (Change (DepotView S))) (next : LibState) : Type 0 where
    pub before : List (Change (DepotView S))
    pub change : Change (DepotView S)
    pub later : List (Change (DepotView S))
    pub cut : changes ≡ before ++ change ∷ later
    pub done : Done
    pub made : IsMadeAs change.made change.moment done
    pub would : WouldMake contents may_give texts faults change.before.value done next

  -- none of these changes is a begin of a collection, done or refused by the shelf, that cuts the commit away
  abbrev pub AllKeep : List (Change (DepotView S)) → List ℕ → Type 0
  AllKeep changes commit =
      AllByRecursion (λ (change : Change (DepotView S)). (done : Done) → IsMadeAs change.made change.moment done → KeepsCommit change.before.value done commit) changes
