-- How a library is made. Our own. Read first_state and make_refusal, then IsMade and LeftUnmade.
use Rattle.std.specs.Prelude.{◌≡◌, ◌⊎◌, ℕ, Bool, false, List, Option, None, Some, option_map, Result, Ok, Err, IsTrue}
use Rattle.ids.specs.Key.{Objects}
use Rattle.library_rules.specs.Creation.{opening_object}
pub use Rattle.library_rules.specs.Creation.{first_state}
use Rattle.library_rules.specs.declared.entry.Stored.{Stored}
use Rattle.library_state.specs.declared.state.LibState.{LibState}
use Rattle.commit_objects.specs.declared.commit.Commit.{Commit}
use Rattle.object_graph.specs.Objects.{commit_at}
use Rattle.object_store.specs.Shelf.{Contents}
use Rattle.object_store.specs.Store.{IsPutFault, is_free, is_of_shelf}
use Rattle.object_store.specs.StoreView.{StoreView, objects_of, status_of}
use Rattle.object_store.specs.declared.error.StoreFault.{StoreFault}
use Rattle.object_store.specs.declared.shelf.Slot.{Slot}
use Rattle.object_store.specs.declared.shelf.Slot.TheVariants.{Status}
use Rattle.depot.specs.DepotView.{DepotView}
use Rattle.depot.specs.Writing.{IsWritten, with_stored}
use Rattle.depot.specs.declared.error.MakeFault.{MakeFault}
use Rattle.depot.specs.declared.error.MakeFault.TheVariants as make

-- the refusal that came with what was given back is the one that is due, and none where none is due; a free one may come
-- in its place
abbrev pub RefusesWith : {T U F : Type 0} → (F → Bool) → Result T (U × F) → Option F → Type 0
RefusesWith free (Ok x) due = due ≡ None
RefusesWith free (Err refused) due = (due ≡ Some refused.1) ⊎ IsTrue (free refused.1)

-- ---- making

-- why a library isn't made: a text is there, or the opening commit can't be stored
abbrev pub make_refusal : Option (List ℕ) → Option StoreFault → Option MakeFault
make_refusal (Some text) put = Some make.HasState
make_refusal None put = option_map make.Store put

-- the faults that may come in any other's place
abbrev pub is_make_free : MakeFault → Bool
is_make_free make.HasState = false
is_make_free (make.Store fault) = is_free fault

-- the fault that the shelf counts
abbrev pub is_make_counted : MakeFault → Bool
is_make_counted make.HasState = false
is_make_counted (make.Store fault) = is_of_shelf fault

-- the cause of each fault, over any shelf, in what it may give as it is handed in: a text, or what the opening commit can't
-- be put over
abbrev pub IsMakeFault : (Slot → Option (List ℕ) → Type 0) → Stored → MakeFault → Type 0
IsMakeFault may_give x make.HasState = (text : List ℕ) × may_give Status (Some text)
IsMakeFault may_give x (make.Store fault) = IsPutFault may_give x.key x.bytes fault

-- the same of the slot alone
abbrev pub IsSlotFault : (Slot → Option (List ℕ) → Type 0) → MakeFault → Type 0
IsSlotFault may_give make.HasState = (text : List ℕ) × may_give Status (Some text)
IsSlotFault may_give (make.Store fault) = IsTrue (is_free fault)

-- the opening commit is stored, and then the slot holds the text
pub record StoresFirst {S : Type 0} (contents : S → Option Contents) (given : StoreView S) (x : Stored) (first : LibState) (store : StoreView S) : Type 0 where
  pub objects : objects_of contents store ≡ with_stored x (objects_of contents given)
  pub text : IsWritten first (status_of contents given) (status_of contents store)

-- the same, with the state that was made, and the opening commit can be read
pub record IsCreated {S : Type 0} (contents : S → Option Contents) (faults : S → ℕ) (given : StoreView S) (commit : Commit) (first : LibState)
    (store : StoreView S) (state : LibState) : Type 0 where
  pub is_first : state ≡ first
  pub stores : StoresFirst contents given (opening_object commit) first store
  pub count : faults store.shelf ≡ faults given.shelf
  pub found : (objects : Objects) → objects_of contents store ≡ Some objects → commit_at objects commit.id ≡ Ok commit

-- the library was made: its opening commit is stored, and then the slot holds its text
pub record IsMade {S : Type 0} (contents : S → Option Contents) (faults : S → ℕ) (given : StoreView S) (x : Stored) (first : LibState)
    (depot : DepotView S) : Type 0 where
  pub state : depot.state ≡ first
  pub settled : depot.unsettled ≡ false
  pub idle : depot.running ≡ None
  pub marked : depot.marked ≡ 0
  pub objects : objects_of contents depot.store ≡ with_stored x (objects_of contents given)
  pub text : IsWritten first (status_of contents given) (status_of contents depot.store)
  pub count : faults depot.store.shelf ≡ faults given.shelf

-- the store after a library wasn't made: as it was, or with the opening commit; and with that the slot may hold the text, and
-- the commit can be read
pub data LeftUnmade {S : Type 0} (contents : S → Option Contents) (given : StoreView S) (commit : Commit) (first : LibState) (store : StoreView S) : Type 0 where
  untouched : objects_of contents store ≡ objects_of contents given → status_of contents store ≡ status_of contents given
      → LeftUnmade contents given commit first store
  stored : objects_of contents store ≡ with_stored (opening_object commit) (objects_of contents given) → status_of contents store ≡ status_of contents given
      → LeftUnmade contents given commit first store
  begun : objects_of contents store ≡ with_stored (opening_object commit) (objects_of contents given) → IsWritten first (status_of contents given) (status_of contents store)
      → ((objects : Objects) → objects_of contents store ≡ Some objects → commit_at objects commit.id ≡ Ok commit) → LeftUnmade contents given commit first store

-- the same by the refusal: where a text is there nothing is changed, and only a failure of the shelf may leave the text
abbrev pub LeftUnmadeBy : {S : Type 0} → (S → Option Contents) → (given : StoreView S) → Commit → LibState → (store : StoreView S) → MakeFault → Type 0
LeftUnmadeBy contents given commit first store make.HasState = (objects_of contents store ≡ objects_of contents given) × (status_of contents store ≡ status_of contents given)
LeftUnmadeBy contents given commit first store (make.Store fault) = LeftUnmade contents given commit first store × (is_of_shelf fault ≡ false → status_of contents store ≡ status_of contents given)
