-- How a library is opened again. Our own. Read start_refusal, then IsOpened and LeftUnopened.
use Rattle.std.specs.Prelude.{◌≡◌, ◌≢◌, ◌⊎◌, ℕ, ◌+◌, ◌==◌, Bool, false, if◌then◌else◌, List, [], ◌∷◌, Option, None, Some, option_map, Result, Ok, Err, ⊤}
use Rattle.ids.specs.Key.{Objects}
use Rattle.ids.specs.declared.key.Key.{Key}
use Rattle.library_rules.specs.LibraryState.{kept_commits, last_number}
use Rattle.library_rules.specs.Recovery.{opened}
use Rattle.library_state.specs.StateText.{state_of as read_state}
use Rattle.library_state.specs.declared.state.LibState.{LibState}
use Rattle.library_state.specs.declared.state_fault.StateKey.{StateKey}
use Rattle.object_graph.specs.Traversal.{walk_commit}
use Rattle.object_graph.specs.declared.fault.TreeFault.{TreeFault}
use Rattle.object_graph.specs.declared.fault.TreeFault.TheVariants as tree
use Rattle.object_store.specs.Shelf.{Contents}
use Rattle.object_store.specs.Store.{IsDamage, damage_at, is_of_shelf}
use Rattle.object_store.specs.StoreView.{StoreView, objects_of, status_of}
use Rattle.object_store.specs.declared.error.StoreFault.{StoreFault}
use Rattle.object_store.specs.declared.error.StoreFault.TheVariants.{Taken, Wrong, Damaged, Shelf, NoMemory}
use Rattle.object_store.specs.declared.shelf.Slot.{Slot}
use Rattle.object_store.specs.declared.shelf.Slot.TheVariants.{Status}
use Rattle.tree_walk.specs.declared.fault.WalkFault.{WalkFault}
use Rattle.tree_walk.specs.declared.fault.WalkFault.TheVariants as walk
use Rattle.depot.specs.DepotView.{DepotView, library, state_of}
use Rattle.depot.specs.Writing.{IsWritten}
use Rattle.depot.specs.declared.complete.CheckFault.{CheckFault}
use Rattle.depot.specs.declared.complete.CheckFault.TheVariants as check
use Rattle.depot.specs.declared.error.StartFault.{StartFault}
use Rattle.depot.specs.declared.error.StartFault.TheVariants as start
use Rattle.tree_walk.specs.Files.{first_due}

-- ---- a store's fault in a call that reads

-- over told objects: damage where an object that is stored is damaged; a failure of the shelf and want of memory freely
abbrev pub IsToldFault : Objects → StoreFault → Type 0
IsToldFault objects (Damaged want got) = (key : Key) × (damage_at objects key ≡ Some (Damaged want got))
IsToldFault objects Shelf = ⊤
IsToldFault objects NoMemory = ⊤
IsToldFault objects (Taken id) = ⊥
IsToldFault objects (Wrong id) = ⊥

-- over any shelf: damage where it may give such bytes
abbrev pub IsReadFault : (Slot → Option (List ℕ) → Type 0) → StoreFault → Type 0
IsReadFault may_give (Damaged want got) = (key : Key) × IsDamage may_give key want got
IsReadFault may_give Shelf = ⊤
IsReadFault may_give NoMemory = ⊤
IsReadFault may_give (Taken id) = ⊥
IsReadFault may_give (Wrong id) = ⊥

-- ---- whether a commit is complete

-- no fault is due, or the one that is; or the store failed
abbrev pub ChecksSo : Objects → Option TreeFault → Result ⊤ CheckFault → Type 0
ChecksSo objects due (Ok done) = due ≡ None
ChecksSo objects due (Err (check.Tree fault)) = due ≡ Some fault
ChecksSo objects due (Err (check.Store fault)) = IsToldFault objects fault

abbrev pub IsCheckFault : (Slot → Option (List ℕ) → Type 0) → CheckFault → Type 0
IsCheckFault may_give (check.Tree fault) = ⊤
IsCheckFault may_give (check.Store fault) = IsReadFault may_give fault

-- the fault of a traversal, or of the store in it
abbrev pub check_fault_of : WalkFault → CheckFault
check_fault_of (walk.Incomplete key) = check.Tree (tree.Incomplete key)
check_fault_of (walk.Unreadable key) = check.Tree (tree.Unreadable key)
check_fault_of (walk.WrongKind id) = check.Tree (tree.WrongKind id)
check_fault_of (walk.WrongSize id) = check.Tree (tree.WrongSize id)
check_fault_of (walk.TooDeep path) = check.Tree (tree.TooDeep path)
check_fault_of (walk.TooMany paths) = check.Tree (tree.TooMany paths)
check_fault_of (walk.Store fault) = check.Store fault

-- the fault that the shelf counts
abbrev pub is_check_counted : CheckFault → Bool
is_check_counted (check.Tree fault) = false
is_check_counted (check.Store fault) = is_of_shelf fault

-- the first fault of the first of these commits that isn't complete
abbrev pub first_incomplete : Objects → List (List ℕ) → Option TreeFault
first_incomplete objects [] = None
first_incomplete objects (id ∷ ids) = first_due (walk_commit objects id).fault (first_incomplete objects ids)

-- ---- opening

-- why a state can't be opened: its opening number is the last one, or a kept commit isn't complete, each head before its
-- pushed commit
abbrev pub state_refusal : Objects → LibState → Option StartFault
state_refusal objects state =
    if state.opening == last_number then Some start.Worn
    else option_map start.Walk (first_incomplete objects (kept_commits state.kept))

-- why a text isn't opened: it is no state text, or its state can't be opened
abbrev pub text_refusal : Objects → Result LibState StateKey → Option StartFault
text_refusal objects (Err key) = Some (start.BadState key)
text_refusal objects (Ok state) = state_refusal objects state

-- why a library isn't opened: there is no text, or it isn't opened
abbrev pub start_refusal : Objects → Option (List ℕ) → Option StartFault
start_refusal objects None = Some start.NoState
start_refusal objects (Some text) = text_refusal objects (read_state text)

-- the faults that may come in any other's place
abbrev pub IsStartFree : Objects → StartFault → Type 0
IsStartFree objects (start.Store fault) = IsToldFault objects fault
IsStartFree objects start.NoState = ⊥
IsStartFree objects (start.BadState key) = ⊥
IsStartFree objects start.Worn = ⊥
IsStartFree objects (start.Walk fault) = ⊥

-- the fault is the one that is due, or a free one
abbrev pub IsDueOr : Objects → Option StartFault → StartFault → Type 0
IsDueOr objects due fault = (due ≡ Some fault) ⊎ IsStartFree objects fault

-- the refusal is the one that is due, and none comes where none is due; a free one may come in its place
abbrev pub StartsAs : {T : Type 0} → Objects → Option StartFault → Result T StartFault → Type 0
StartsAs objects due (Ok x) = due ≡ None
StartsAs objects due (Err fault) = IsDueOr objects due fault

-- the shelf may give a text of this state
pub record IsGiven (may_give : Slot → Option (List ℕ) → Type 0) (state : LibState) : Type 0 where
  pub text : List ℕ
  pub gives : may_give Status (Some text)
  pub reads : read_state text ≡ Ok state

-- the shelf may give a text that is none, by this check
pub record GivesBad (may_give : Slot → Option (List ℕ) → Type 0) (key : StateKey) : Type 0 where
  pub text : List ℕ
  pub gives : may_give Status (Some text)
  pub reads : read_state text ≡ Err key

-- the shelf may give the text of a state that was opened as often as it can be
pub record GivesWorn (may_give : Slot → Option (List ℕ) → Type 0) : Type 0 where
  pub state : LibState
  pub given : IsGiven may_give state
  pub last : state.opening ≡ last_number

-- the cause of each fault, over any shelf
abbrev pub IsStartFault : (Slot → Option (List ℕ) → Type 0) → StartFault → Type 0
IsStartFault may_give start.NoState = may_give Status None
IsStartFault may_give (start.BadState key) = GivesBad may_give key
IsStartFault may_give start.Worn = GivesWorn may_give
IsStartFault may_give (start.Walk fault) = ⊤
IsStartFault may_give (start.Store fault) = IsReadFault may_give fault

-- a fault that the text alone has, or the store
abbrev pub IsTextFault : StartFault → Type 0
IsTextFault start.NoState = ⊤
IsTextFault (start.BadState key) = ⊤
IsTextFault start.Worn = ⊥
IsTextFault (start.Walk fault) = ⊥
IsTextFault (start.Store fault) = ⊤

-- the cause of a fault of a state that was read
abbrev pub IsStateFault : LibState → (Slot → Option (List ℕ) → Type 0) → StartFault → Type 0
IsStateFault state may_give start.NoState = ⊥
IsStateFault state may_give (start.BadState key) = ⊥
IsStateFault state may_give start.Worn = state.opening ≡ last_number
IsStateFault state may_give (start.Walk fault) = ⊤
IsStateFault state may_give (start.Store fault) = IsReadFault may_give fault

-- the fault that the shelf counts
abbrev pub is_start_counted : StartFault → Bool
is_start_counted (start.Store fault) = is_of_shelf fault
is_start_counted start.NoState = false
is_start_counted (start.BadState key) = false
is_start_counted start.Worn = false
is_start_counted (start.Walk fault) = false

-- the state with the next opening number
abbrev pub next_opening : LibState → LibState
next_opening state = record state { opening = state.opening + 1 }

-- the state, with the next opening number, of a text that the shelf may give
pub record IsNextOf (may_give : Slot → Option (List ℕ) → Type 0) (state : LibState) : Type 0 where
  pub found : LibState
  pub given : IsGiven may_give found
  pub next : state ≡ next_opening found

-- what was read: a text, as this state; where the shelf tells it, the text of the slot
pub record IsFound {S : Type 0} (contents : S → Option Contents) (given : StoreView S) (found : LibState) : Type 0 where
  pub text : List ℕ
  pub reads : read_state text ≡ Ok found
  pub told : (status : Option (List ℕ)) → status_of contents given ≡ Some status → status ≡ Some text

-- the library was opened: its objects are those that lie there, its opening number is the next one, and the slot holds
-- its text
pub record IsOpened {S : Type 0} (contents : S → Option Contents) (faults : S → ℕ) (given : StoreView S) (store : StoreView S) (state : LibState) : Type 0 where
  pub found : LibState
  pub is_found : IsFound contents given found
  pub is_next : state ≡ next_opening found
  pub objects : objects_of contents store ≡ objects_of contents given
  pub text : IsWritten state (status_of contents given) (status_of contents store)
  pub count : faults store.shelf ≡ faults given.shelf

-- over told objects: the library is that of the text that was read, with all objects that lie there, no collection
-- running, and the next opening number
pub record OpensTold {S : Type 0} (contents : S → Option Contents) (faults : S → ℕ) (given : StoreView S) (objects : Objects) (depot : DepotView S) : Type 0 where
  pub found : LibState
  pub is_found : IsFound contents given found
  pub state : state_of contents faults depot ≡ Some (opened objects (faults given.shelf) (library found (faults given.shelf) objects))

-- what was opened, without the store that is given back
abbrev pub without_store : {T U F : Type 0} → Result T (U × F) → Result ⊤ F
without_store (Ok x) = Ok tt
without_store (Err refused) = Err refused.1

-- the store after a library wasn't opened: as it was; or the slot may hold the text with the next opening number, where the one
-- that was read wasn't the last
pub data LeftUnopened {S : Type 0} (contents : S → Option Contents) (given store : StoreView S) : Type 0 where
  untouched : status_of contents store ≡ status_of contents given → LeftUnopened contents given store
  raised : (found : LibState) → IsFound contents given found → found.opening ≢ last_number
      → IsWritten (next_opening found) (status_of contents given) (status_of contents store)
      → LeftUnopened contents given store

-- only a failure of the shelf may leave the next text
abbrev pub LeftUnopenedBy : {S : Type 0} → (S → Option Contents) → (given store : StoreView S) → StartFault → Type 0
LeftUnopenedBy contents given store (start.Store fault) = LeftUnopened contents given store × (is_of_shelf fault ≡ false → status_of contents store ≡ status_of contents given)
LeftUnopenedBy contents given store start.NoState = status_of contents store ≡ status_of contents given
LeftUnopenedBy contents given store (start.BadState key) = status_of contents store ≡ status_of contents given
LeftUnopenedBy contents given store start.Worn = status_of contents store ≡ status_of contents given
LeftUnopenedBy contents given store (start.Walk fault) = status_of contents store ≡ status_of contents given
