-- What a call that reads a store answers and leaves. Our own. Read Answers, then Reads.
use Rattle.std.specs.Prelude.{◌≡◌, ℕ, Bool, false, IsSome, List, Option, Some, None, Result, Ok, Err, ⊤}
use Rattle.std.specs.FinMap as map
use Rattle.ids.specs.FaultCount.{FailsBy}
use Rattle.ids.specs.Key.{Objects}
use Rattle.ids.specs.declared.key.Key.{Key}
use Rattle.object_store.specs.Shelf.{Contents}
use Rattle.object_store.specs.Store.{IsDamage, damage_at, is_of_shelf}
use Rattle.object_store.specs.StoreView.{Index, Keeps, ReadsShelf, StoreView}
use Rattle.object_store.specs.declared.error.StoreFault.{StoreFault}
use Rattle.object_store.specs.declared.error.StoreFault.TheVariants.{Taken, Wrong, Damaged, Shelf, NoMemory}
use Rattle.object_store.specs.declared.shelf.Slot.{Slot}
use Rattle.object_graph.specs.declared.fault.TreeFault.{TreeFault}
use Rattle.object_graph.specs.declared.fault.TreeFault.TheVariants as tree
use Rattle.tree_walk.specs.declared.fault.WalkFault.{WalkFault}
use Rattle.tree_walk.specs.declared.fault.WalkFault.TheVariants.{Incomplete, Unreadable, WrongKind, WrongSize, TooDeep, TooMany, Store}

-- a store's fault that may come in any place: a failure of the shelf, want of memory, and a stored object that is damaged
abbrev pub IsStoreDue : Objects → StoreFault → Type 0
IsStoreDue objects (Taken id) = ⊥
IsStoreDue objects (Wrong id) = ⊥
IsStoreDue objects (Damaged want got) = (key : Key) × (damage_at objects key ≡ Some (Damaged want got))
IsStoreDue objects Shelf = ⊤
IsStoreDue objects NoMemory = ⊤

-- the fault is the one that is due, or such a fault of the store
abbrev pub IsDue : Objects → Option TreeFault → WalkFault → Type 0
IsDue objects due (Incomplete key) = due ≡ Some (tree.Incomplete key)
IsDue objects due (Unreadable key) = due ≡ Some (tree.Unreadable key)
IsDue objects due (WrongKind id) = due ≡ Some (tree.WrongKind id)
IsDue objects due (WrongSize id) = due ≡ Some (tree.WrongSize id)
IsDue objects due (TooDeep path) = due ≡ Some (tree.TooDeep path)
IsDue objects due (TooMany paths) = due ≡ Some (tree.TooMany paths)
IsDue objects due (Store fault) = IsStoreDue objects fault

-- a good value where no fault is due, and else that fault
abbrev pub Answers : {T : Type 0} → Objects → Option TreeFault → (T → Type 0) → Result T WalkFault → Type 0
Answers objects due good (Ok value) = (due ≡ None) × good value
Answers objects due good (Err fault) = IsDue objects due fault

-- the value that was read, or the fault with which it can't be read
abbrev pub AnswersRead : {T : Type 0} → Objects → Result T TreeFault → Result T WalkFault → Type 0
AnswersRead objects (Ok value) (Ok given) = given ≡ value
AnswersRead objects (Ok value) (Err fault) = IsDue objects None fault
AnswersRead objects (Err due) (Ok given) = ⊥
AnswersRead objects (Err due) (Err fault) = IsDue objects (Some due) fault

-- what is stored under a key
abbrev pub stored_in : Key → Option (List ℕ) → Result (List ℕ) TreeFault
stored_in key None = Err (tree.Incomplete key)
stored_in key (Some bytes) = Ok bytes

abbrev pub stored_at : Objects → Key → Result (List ℕ) TreeFault
stored_at objects key = stored_in key (map.get objects key)

-- a key of the index for which the shelf may give other bytes, or nothing
pub record IsIndexDamage (index : Index) (may_give : Slot → Option (List ℕ) → Type 0) (want : List ℕ) (got : Option (List ℕ)) : Type 0 where
  pub key : Key
  pub there : IsSome (map.get index key)
  pub damage : IsDamage may_give key want got

-- over any shelf, a store's fault comes for its cause, and is never one of a put; and a key is told as incomplete only where
-- the store doesn't know it
abbrev pub IsReadFault : Index → (Slot → Option (List ℕ) → Type 0) → StoreFault → Type 0
IsReadFault index may_give (Taken id) = ⊥
IsReadFault index may_give (Wrong id) = ⊥
IsReadFault index may_give (Damaged want got) = IsIndexDamage index may_give want got
IsReadFault index may_give Shelf = ⊤
IsReadFault index may_give NoMemory = ⊤

abbrev pub IsCause : Index → (Slot → Option (List ℕ) → Type 0) → WalkFault → Type 0
IsCause index may_give (Store fault) = IsReadFault index may_give fault
IsCause index may_give (Incomplete key) = map.get index key ≡ None
IsCause index may_give (Unreadable key) = ⊤
IsCause index may_give (WrongKind id) = ⊤
IsCause index may_give (WrongSize id) = ⊤
IsCause index may_give (TooDeep path) = ⊤
IsCause index may_give (TooMany paths) = ⊤

abbrev pub CausedBy : {T : Type 0} → Index → (Slot → Option (List ℕ) → Type 0) → Result T WalkFault → Type 0
CausedBy index may_give (Ok value) = ⊤
CausedBy index may_give (Err fault) = IsCause index may_give fault

-- over any shelf, damage is told of this id alone
abbrev pub IsDamageOf : List ℕ → StoreFault → Type 0
IsDamageOf id (Taken other) = ⊤
IsDamageOf id (Wrong other) = ⊤
IsDamageOf id (Damaged want got) = want ≡ id
IsDamageOf id Shelf = ⊤
IsDamageOf id NoMemory = ⊤

-- over any shelf, the fault is one of reading the object under this key
abbrev pub IsFaultAt : Key → WalkFault → Type 0
IsFaultAt key (Store fault) = IsDamageOf key.id fault
IsFaultAt key (Incomplete other) = other ≡ key
IsFaultAt key (Unreadable other) = other ≡ key
IsFaultAt key (WrongKind id) = ⊥
IsFaultAt key (WrongSize id) = ⊥
IsFaultAt key (TooDeep path) = ⊥
IsFaultAt key (TooMany paths) = ⊥

-- where objects are told, damage is told of the object under this key alone
abbrev pub IsDamageAt : Objects → Key → WalkFault → Type 0
IsDamageAt objects key (Store (Damaged want got)) = damage_at objects key ≡ Some (Damaged want got)
IsDamageAt objects key other = ⊤

-- the failure that the shelf counts
abbrev pub is_counted : WalkFault → Bool
is_counted (Store fault) = is_of_shelf fault
is_counted (Incomplete key) = false
is_counted (Unreadable key) = false
is_counted (WrongKind id) = false
is_counted (WrongSize id) = false
is_counted (TooDeep path) = false
is_counted (TooMany paths) = false

-- nothing that the store holds is changed, and the shelf may give no more than before; a failure of the store comes for its
-- cause; and the shelf's count rose where it failed, and stays else
pub record Reads {S T : Type 0} (contents : S → Option Contents) (may_give : S → Slot → Option (List ℕ) → Type 0) (texts faults : S → ℕ)
    (old new : StoreView S) (result : Result T WalkFault) : Type 0 where
  pub kept : Keeps contents old new
  pub shelf : ReadsShelf may_give texts old.shelf new.shelf
  pub cause : CausedBy new.index (may_give new.shelf) result
  pub count : FailsBy is_counted (faults old.shelf) (faults new.shelf) result
