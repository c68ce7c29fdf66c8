-- What a store holds: the objects on its shelf whose keys stand in its index, and what each call changes. Our own.
-- Read StoreView and objects_of first.
use Rattle.std.specs.Prelude.{◌≡◌, ◌⊎◌, ℕ, Bool, true, false, List, length, Option, None, Some, is_some, option_map, Result, Ok, Err, ⊤, refl}
use Rattle.std.specs.Coded.{Coded, code_by, coded×, coded_ℕ}
use Rattle.std.specs.FinMap as map
use Rattle.ids.specs.Key.{Objects, key_cmp}
use Rattle.ids.specs.contracts.key.Key as key_contracts
use Rattle.ids.specs.declared.key.Key.{Key}
use Rattle.object_store.specs.Shelf.{Contents, GivesAlso, GivesNoMore, put_known, removed_known, texts_after}
use Rattle.object_store.specs.Store.{CountsShelf}
use Rattle.object_store.specs.declared.error.StoreFault.{StoreFault}
use Rattle.object_store.specs.declared.error.StoreFault.TheVariants.{Taken, Wrong, Damaged, Shelf, NoMemory}
use Rattle.object_store.specs.declared.put.Put.{Put}
use Rattle.object_store.specs.declared.put.Put.TheVariants.{New, Same}
use Rattle.object_store.specs.declared.shelf.Slot.{Slot}
use Rattle.object_store.specs.declared.shelf.Slot.TheVariants.{Object, Status}

-- the keys that a store knows, each with the size of its object
abbrev pub Index : Type 0
Index = map.FinMap key_cmp ℕ

-- a store as contracts see it
pub record StoreView (S : Type 0) : Type 0 where
  pub shelf : S
  pub index : Index

-- a store is stored as the pair of its fields
abbrev pub store_code : {S : Type 0} → Coded S → Coded (StoreView S)
store_code {S} shelf = code_by (S × Index) (coded× shelf (map.code key_contracts.the_row.coded coded_ℕ))
    (λ store. (store.shelf, store.index)) (λ pair. record { shelf = pair.0; index = pair.1 }) (λ _. refl)

-- the objects that lie on the shelf and whose keys stand in the index
abbrev pub indexed : Index → Contents → Objects
indexed index held = map.retain_keys held.objects (λ key. is_some (map.get index key))

-- what a store holds, where its shelf tells it
abbrev pub objects_of : {S : Type 0} → (S → Option Contents) → StoreView S → Option Objects
objects_of contents store = option_map (indexed store.index) (contents store.shelf)

-- the status text, where the shelf tells it
abbrev pub status_of : {S : Type 0} → (S → Option Contents) → StoreView S → Option (Option (List ℕ))
status_of contents store = option_map (λ held. held.status) (contents store.shelf)

-- each key of the index lies on the shelf, with the size that the index tells
abbrev pub IsIndexed : {S : Type 0} → (S → Option Contents) → S → Index → Type 0
IsIndexed contents shelf index = (held : Contents) → contents shelf ≡ Some held → (key : Key) (size : ℕ)
    → map.get index key ≡ Some size → option_map length (map.get held.objects key) ≡ Some size

-- the objects with one more, or without one, where they are told
abbrev pub with_object : Option Objects → Key → List ℕ → Option Objects
with_object known key bytes = option_map (λ objects. map.insert objects key bytes) known

abbrev pub without_object : Option Objects → Key → Option Objects
without_object known key = option_map (λ objects. map.remove objects key) known

-- ---- what lies beside

-- an object that lies on the shelf and whose key isn't in the index
pub record IsStray {S : Type 0} (contents : S → Option Contents) (store : StoreView S) (key : Key) : Type 0 where
  pub held : Contents
  pub told : contents store.shelf ≡ Some held
  pub lies : is_some (map.get held.objects key) ≡ true
  pub unknown : map.get store.index key ≡ None

-- no object lies there that the store doesn't hold
abbrev pub HasNoStray : {S : Type 0} → (S → Option Contents) → StoreView S → Type 0
HasNoStray contents store = (key : Key) → IsStray contents store key → ⊥

-- each object that lies there and isn't held was so before
abbrev pub AddsNoStray : {S : Type 0} → (S → Option Contents) → StoreView S → StoreView S → Type 0
AddsNoStray contents old new = (key : Key) → IsStray contents new key → IsStray contents old key

-- the same, unless the call answers such a fault
abbrev pub StraysBy : {S T E : Type 0} → (E → Bool) → (S → Option Contents) → StoreView S → StoreView S → Result T E → Type 0
StraysBy is_fault contents old new (Ok x) = AddsNoStray contents old new
StraysBy is_fault contents old new (Err fault) = is_fault fault ≡ false → AddsNoStray contents old new

-- ---- what a call changes

-- nothing that the store or its shelf holds is changed
pub record Keeps {S : Type 0} (contents : S → Option Contents) (old new : StoreView S) : Type 0 where
  pub index : new.index ≡ old.index
  pub shelf : contents new.shelf ≡ contents old.shelf
  pub objects : objects_of contents new ≡ objects_of contents old

-- the index is changed, and the slot's change is made on the shelf
pub record Makes {S : Type 0} (contents : S → Option Contents) (new : StoreView S) (keys : Index) (changed : Option Contents)
    : Type 0 where
  pub index : new.index ≡ keys
  pub shelf : contents new.shelf ≡ changed

-- the index is changed, and the slot's change may be made on the shelf
pub record MayMake {S : Type 0} (contents : S → Option Contents) (old new : StoreView S) (keys : Index) (changed : Option Contents)
    : Type 0 where
  pub index : new.index ≡ keys
  pub shelf : (contents new.shelf ≡ contents old.shelf) ⊎ (contents new.shelf ≡ changed)

-- what a put changes, in the index and on the shelf: at most this one slot
abbrev pub PutChanges : {S : Type 0} → (S → Option Contents) → StoreView S → StoreView S → Key → List ℕ → Result Put StoreFault → Type 0
PutChanges contents old new key bytes (Ok New) =
    Makes contents new (map.insert old.index key (length bytes)) (put_known (contents old.shelf) (Object key) bytes)
PutChanges contents old new key bytes (Ok Same) = Keeps contents old new
PutChanges contents old new key bytes (Err Shelf) =
    MayMake contents old new old.index (put_known (contents old.shelf) (Object key) bytes)
PutChanges contents old new key bytes (Err (Taken id)) = Keeps contents old new
PutChanges contents old new key bytes (Err (Wrong id)) = Keeps contents old new
PutChanges contents old new key bytes (Err (Damaged want got)) = Keeps contents old new
PutChanges contents old new key bytes (Err NoMemory) = Keeps contents old new

-- what a removal changes: the key and its slot; where the shelf failed the key goes, and the slot is as it was or empty
abbrev pub RemovalChanges : {S : Type 0} → (S → Option Contents) → StoreView S → StoreView S → Key → Result ⊤ StoreFault → Type 0
RemovalChanges contents old new key (Ok done) =
    Makes contents new (map.remove old.index key) (removed_known (contents old.shelf) (Object key))
RemovalChanges contents old new key (Err Shelf) =
    MayMake contents old new (map.remove old.index key) (removed_known (contents old.shelf) (Object key))
RemovalChanges contents old new key (Err NoMemory) = Keeps contents old new
RemovalChanges contents old new key (Err (Taken id)) = ⊥
RemovalChanges contents old new key (Err (Wrong id)) = ⊥
RemovalChanges contents old new key (Err (Damaged want got)) = ⊥

-- what is left of the objects after a removal: all of them after want of memory, and else all but the one
abbrev pub left_after : Option Objects → Key → Result ⊤ StoreFault → Option Objects
left_after known key (Err NoMemory) = known
left_after known key result = without_object known key

-- what a write of the status text changes
abbrev pub NoteChanges : {S : Type 0} → (S → Option Contents) → StoreView S → StoreView S → List ℕ → Result ⊤ StoreFault → Type 0
NoteChanges contents old new text (Ok done) = Makes contents new old.index (put_known (contents old.shelf) Status text)
NoteChanges contents old new text (Err Shelf) = MayMake contents old new old.index (put_known (contents old.shelf) Status text)
NoteChanges contents old new text (Err NoMemory) = Keeps contents old new
NoteChanges contents old new text (Err (Taken id)) = ⊥
NoteChanges contents old new text (Err (Wrong id)) = ⊥
NoteChanges contents old new text (Err (Damaged want got)) = ⊥

-- ---- what the shelf may give after a call, and the texts that were put on it

-- a call that reads: the shelf may give no more than before, and no status text was put
pub record ReadsShelf {S : Type 0} (may_give : S → Slot → Option (List ℕ) → Type 0) (texts : S → ℕ) (old new : S) : Type 0 where
  pub gives : GivesNoMore (may_give old) (may_give new)
  pub written : texts new ≡ texts old

-- a call that may change one slot: the shelf may give no more than before, but what was laid there, and a status text was
-- put exactly where the slot is its
pub record ChangesShelf {S : Type 0} (may_give : S → Slot → Option (List ℕ) → Type 0) (texts : S → ℕ) (old new : S)
    (slot : Slot) (laid : Option (List ℕ)) : Type 0 where
  pub gives : GivesAlso (may_give old) (may_give new) slot laid
  pub written : texts new ≡ texts_after slot (texts old)

-- a start only reads, and so it does where it gives the shelf back
abbrev pub StartReads : {S : Type 0} → (S → Slot → Option (List ℕ) → Type 0) → (S → ℕ) → S → Result (StoreView S) (S × StoreFault) → Type 0
StartReads may_give texts shelf (Ok store) = ReadsShelf may_give texts shelf store.shelf
StartReads may_give texts shelf (Err refused) = ReadsShelf may_give texts shelf refused.0

-- a store that was started holds all that lies on its shelf, and the shelf is as it was
pub record IsStarted {S : Type 0} (contents : S → Option Contents) (given : S) (store : StoreView S) : Type 0 where
  pub shelf : contents store.shelf ≡ contents given
  pub objects : objects_of contents store ≡ option_map (λ held. held.objects) (contents given)

-- a start gives the shelf's count on, and where it failed only Shelf comes with a risen one
abbrev pub StartsSo : {S : Type 0} → (S → ℕ) → S → Result (StoreView S) (S × StoreFault) → Type 0
StartsSo faults shelf (Ok store) = faults store.shelf ≡ faults shelf
StartsSo faults shelf (Err refused) = CountsShelf {T = ⊤} (faults shelf) (faults refused.0) (Err refused.1)

-- the index of these objects: each key with its size, and no other key
abbrev pub IsIndexOf : Objects → Index → Type 0
IsIndexOf objects index = (key : Key) → map.get index key ≡ option_map length (map.get objects key)
