-- What the parts of the store's calls do. Read first: Store, StoreView.
use Rattle.std.specs.Prelude.{◌≡◌, ◌⊎◌, ℕ, Bool, false, ◌&&◌, ◌||◌, ◌==◌, nat_lt, not, if◌then◌else◌, List, length, Option, None, Some, option_map, Result, Ok, Err, IsFalse, ⊤}
use Rattle.std.specs.FinMap as map
use Rattle.std.specs.Ordering.{is_gt}
use Rattle.sha1.specs.Sha1.{sha1}
use Rattle.ids.specs.Key.{Objects}
use Rattle.ids.specs.Kind.{kind_place}
use Rattle.ids.specs.ObjectId.{id_cmp}
use Rattle.ids.specs.declared.key.Key.{Key}
use Rattle.ids.specs.declared.key.Kind.{Kind}
use Rattle.object_store.specs.Shelf.{Contents}
use Rattle.object_store.specs.Store.{GivesOther, IsDamage, IsGetFault, has_other_name}
use Rattle.object_store.specs.StoreView.{Index}
use Rattle.object_store.specs.declared.error.StoreFault.{StoreFault}
use Rattle.object_store.specs.declared.error.StoreFault.TheVariants.{Taken, Wrong, Damaged, Shelf, NoMemory}
use Rattle.object_store.specs.declared.put.Put.{Put}
use Rattle.object_store.specs.declared.put.Put.TheVariants.{New, Same}
use Rattle.object_store.specs.declared.shelf.ShelfFailed.{ShelfFailed}
use Rattle.object_store.specs.declared.shelf.ShelfFailed.TheVariants as failed
use Rattle.object_store.specs.declared.shelf.Slot.{Slot}
use Rattle.object_store.specs.declared.shelf.Slot.TheVariants.{Object}

-- the fault that a failure of the shelf is
abbrev pub fault_of : ShelfFailed → StoreFault
fault_of failed.Shelf = Shelf
fault_of failed.NoMemory = NoMemory

-- the other name of the bytes, if they have one
abbrev pub other_name : Key → List ℕ → Option (List ℕ)
other_name key bytes = if has_other_name key bytes then Some (sha1 bytes) else None

-- the bytes, unless they have another name
abbrev pub judged : Key → List ℕ → Result (List ℕ) StoreFault
judged key bytes = if has_other_name key bytes then Err (Damaged key.id (Some (sha1 bytes))) else Ok bytes

-- the same of bytes that a fetch gave
abbrev pub judged_fetch : Key → Result (List ℕ) StoreFault → Result (List ℕ) StoreFault
judged_fetch key (Ok bytes) = judged key bytes
judged_fetch key (Err fault) = Err fault

-- a fetch of a stored object gives bytes of its name, or tells how they are damaged
abbrev pub FetchesWhole : (Slot → Option (List ℕ) → Type 0) → Key → Result (List ℕ) StoreFault → Type 0
FetchesWhole may_give key (Ok bytes) = may_give (Object key) (Some bytes) × IsFalse (has_other_name key bytes)
FetchesWhole may_give key (Err fault) = IsGetFault may_give key fault

-- a put under a key that is stored: the same bytes, or a refusal
abbrev pub PutsStored : (Slot → Option (List ℕ) → Type 0) → Key → List ℕ → Result Put StoreFault → Type 0
PutsStored may_give key bytes (Ok New) = ⊥
PutsStored may_give key bytes (Ok Same) = may_give (Object key) (Some bytes)
PutsStored may_give key bytes (Err (Taken id)) = (id ≡ key.id) × GivesOther may_give key bytes
PutsStored may_give key bytes (Err (Wrong id)) = ⊥
PutsStored may_give key bytes (Err (Damaged want got)) = IsDamage may_give key want got
PutsStored may_give key bytes (Err Shelf) = ⊤
PutsStored may_give key bytes (Err NoMemory) = ⊤

-- index and shelf after a change of one slot: both are changed, or the index is as `left` and the shelf may be changed,
-- or neither is
abbrev pub ChangesBoth : Index → Index → Index → Index → Option Contents → Option Contents → Option Contents → Result ⊤ StoreFault → Type 0
ChangesBoth old changed left new held put now (Ok done) = (new ≡ changed) × (now ≡ put)
ChangesBoth old changed left new held put now (Err Shelf) = (new ≡ left) × ((now ≡ held) ⊎ (now ≡ put))
ChangesBoth old changed left new held put now (Err NoMemory) = (new ≡ old) × (now ≡ held)
ChangesBoth old changed left new held put now (Err (Taken id)) = ⊥
ChangesBoth old changed left new held put now (Err (Wrong id)) = ⊥
ChangesBoth old changed left new held put now (Err (Damaged want got)) = ⊥

-- the id is at most this one
abbrev pub is_upto : Option (List ℕ) → List ℕ → Bool
is_upto None id = false
is_upto (Some last) id = not (is_gt (id_cmp id last))

-- the key was read, as names of a kind are read in order after those of the kinds before it
abbrev pub is_read : Kind → Option (List ℕ) → Key → Bool
is_read kind last key =
    nat_lt (kind_place key.kind) (kind_place kind) || (kind_place key.kind == kind_place kind) && is_upto last key.id

-- the key is of this kind or of one before it
abbrev pub is_done : Kind → Key → Bool
is_done kind key = not (nat_lt (kind_place kind) (kind_place key.kind))

-- the index has exactly the objects that were read, with their sizes
abbrev pub Indexes : (Key → Bool) → Objects → Index → Type 0
Indexes was_read objects index =
    (key : Key) → map.get index key ≡ (if was_read key then option_map length (map.get objects key) else None)
