-- When a store refuses an object, and when it finds one damaged. Our own; an object's name is the SHA-1 of FIPS 180-4.
-- Read put_refusal first, then damage_at; then what holds of any shelf: IsDamage, IsPutFault, IsGetFault, IsOfStored.
use Rattle.std.specs.Prelude.{ℕ, ◌≡◌, ◌⊎◌, Bool, true, false, ◌&&◌, not, if◌then◌else◌, nat_eq, List, Option, None, Some, Result, Ok, Err, IsSome, IsTrue, IsFalse, ⊤}
use Rattle.std.specs.Cmp.Lexicographic.{pointwise}
use Rattle.std.specs.FinMap as map
use Rattle.sha1.specs.Sha1.{sha1}
use Rattle.ids.specs.FaultCount.{FailsBy}
use Rattle.ids.specs.Key.{Objects}
use Rattle.ids.specs.ObjectId.{nil}
use Rattle.ids.specs.declared.key.Key.{Key}
use Rattle.ids.specs.declared.key.Kind.{Kind}
use Rattle.ids.specs.declared.key.Kind.TheVariants.{Commit, Fs, Block}
use Rattle.object_store.specs.declared.error.StoreFault.{StoreFault}
use Rattle.object_store.specs.declared.error.StoreFault.TheVariants.{Taken, Wrong, Damaged, Shelf, NoMemory}
use Rattle.object_store.specs.declared.put.Put.{Put}
use Rattle.object_store.specs.declared.put.Put.TheVariants.{New, Same}
use Rattle.object_store.specs.declared.shelf.Slot.{Slot}
use Rattle.object_store.specs.declared.shelf.Slot.TheVariants.{Object}

-- the faults that may come in any other's place: want of memory, and a counted failure of the shelf
abbrev pub is_free : StoreFault → Bool
is_free (Taken id) = false
is_free (Wrong id) = false
is_free (Damaged want got) = false
is_free Shelf = true
is_free NoMemory = true

-- want of memory alone
abbrev pub is_want : StoreFault → Bool
is_want (Taken id) = false
is_want (Wrong id) = false
is_want (Damaged want got) = false
is_want Shelf = false
is_want NoMemory = true

-- the fault that the shelf counts
abbrev pub is_of_shelf : StoreFault → Bool
is_of_shelf (Taken id) = false
is_of_shelf (Wrong id) = false
is_of_shelf (Damaged want got) = false
is_of_shelf Shelf = true
is_of_shelf NoMemory = false

-- a call answers Shelf only where the shelf's count rose, and else the count stays
abbrev pub CountsShelf : {T : Type 0} → ℕ → ℕ → Result T StoreFault → Type 0
CountsShelf before now result = FailsBy is_of_shelf before now result

-- whether objects of the kind are named by the SHA-1 of their bytes
abbrev pub is_named_by_bytes : Kind → Bool
is_named_by_bytes Commit = false
is_named_by_bytes Fs = true
is_named_by_bytes Block = true

abbrev pub same_bytes : List ℕ → List ℕ → Bool
same_bytes = pointwise nat_eq

-- the bytes are those of an object of another name
abbrev pub has_other_name : Key → List ℕ → Bool
has_other_name key bytes = is_named_by_bytes key.kind && not (same_bytes (sha1 bytes) key.id)

-- the bytes that are stored under the key are damaged: they have another name
abbrev pub damage_of : Key → Option (List ℕ) → Option StoreFault
damage_of key None = None
damage_of key (Some stored) = if has_other_name key stored then Some (Damaged key.id (Some (sha1 stored))) else None

-- what a get answers where a fetch found this: bytes of another name are damaged
abbrev pub judged_found : Key → Result (Option (List ℕ)) StoreFault → Result (Option (List ℕ)) StoreFault
judged_found key (Ok None) = Ok None
judged_found key (Ok (Some bytes)) = if has_other_name key bytes then Err (Damaged key.id (Some (sha1 bytes))) else Ok (Some bytes)
judged_found key (Err fault) = Err fault

-- the refusal of a get
abbrev pub damage_at : Objects → Key → Option StoreFault
damage_at objects key = damage_of key (map.get objects key)

-- each object lies under its own name
abbrev pub HasNames : Objects → Type 0
HasNames objects = (key : Key) (bytes : List ℕ) → map.get objects key ≡ Some bytes → IsFalse (has_other_name key bytes)

-- the refusal of a put under a key at which this is stored: what is stored is damaged, or else it is other bytes
abbrev pub stored_refusal : Key → List ℕ → Option (List ℕ) → Option StoreFault
stored_refusal key bytes None = None
stored_refusal key bytes (Some stored) =
    if has_other_name key stored then Some (Damaged key.id (Some (sha1 stored)))
    else if same_bytes stored bytes then None
    else Some (Taken key.id)

-- the refusal of a put by its name alone: another name first, then the id that names nothing
abbrev pub name_refusal : Key → List ℕ → Option StoreFault
name_refusal key bytes =
    if has_other_name key bytes then Some (Wrong (sha1 bytes))
    else if same_bytes key.id nil then Some (Taken key.id)
    else None

abbrev pub first_refusal : Option StoreFault → Option StoreFault → Option StoreFault
first_refusal None later = later
first_refusal (Some fault) later = Some fault

-- the refusal of a put: by its name first, then by what is stored
abbrev pub put_refusal : Objects → Key → List ℕ → Option StoreFault
put_refusal objects key bytes = first_refusal (name_refusal key bytes) (stored_refusal key bytes (map.get objects key))

-- nothing is given, or bytes whose SHA-1 is this id and another than the key's
abbrev pub IsOther : Key → Option (List ℕ) → Option (List ℕ) → Type 0
IsOther key None got = got ≡ None
IsOther key (Some bytes) got = IsTrue (has_other_name key bytes) × (got ≡ Some (sha1 bytes))

-- what a shelf may give for the key is damaged: nothing, or bytes of this other name
pub record IsDamage (may_give : Slot → Option (List ℕ) → Type 0) (key : Key) (want : List ℕ) (got : Option (List ℕ)) : Type 0 where
  pub given : Option (List ℕ)
  pub gives : may_give (Object key) given
  pub named : want ≡ key.id
  pub other : IsOther key given got

-- the cause of a get's fault, over any shelf
abbrev pub IsGetFault : (Slot → Option (List ℕ) → Type 0) → Key → StoreFault → Type 0
IsGetFault may_give key (Taken id) = ⊥
IsGetFault may_give key (Wrong id) = ⊥
IsGetFault may_give key (Damaged want got) = IsDamage may_give key want got
IsGetFault may_give key Shelf = ⊤
IsGetFault may_give key NoMemory = ⊤

-- what a get gives is what the shelf may give, under its own name
abbrev pub IsWhole : (Slot → Option (List ℕ) → Type 0) → Key → Option (List ℕ) → Type 0
IsWhole may_give key None = ⊤
IsWhole may_give key (Some bytes) = may_give (Object key) (Some bytes) × IsFalse (has_other_name key bytes)

-- the shelf may give other bytes for the key, which are not damaged
pub record GivesOther (may_give : Slot → Option (List ℕ) → Type 0) (key : Key) (bytes : List ℕ) : Type 0 where
  pub given : List ℕ
  pub gives : may_give (Object key) (Some given)
  pub whole : IsFalse (has_other_name key given)
  pub other : IsFalse (same_bytes given bytes)

-- the cause of a put's fault, over any shelf
abbrev pub IsPutFault : (Slot → Option (List ℕ) → Type 0) → Key → List ℕ → StoreFault → Type 0
IsPutFault may_give key bytes (Taken id) =
    (id ≡ key.id) × (IsTrue (same_bytes key.id nil) ⊎ GivesOther may_give key bytes)
IsPutFault may_give key bytes (Wrong id) = (id ≡ sha1 bytes) × IsTrue (has_other_name key bytes)
IsPutFault may_give key bytes (Damaged want got) = IsDamage may_give key want got
IsPutFault may_give key bytes Shelf = ⊤
IsPutFault may_give key bytes NoMemory = ⊤

-- a refusal for what is stored comes only where the key stands in the index, with this size; Taken of nil apart
abbrev pub IsOfStored : Option ℕ → Key → StoreFault → Type 0
IsOfStored size key (Taken id) = IsTrue (same_bytes key.id nil) ⊎ IsSome size
IsOfStored size key (Wrong id) = ⊤
IsOfStored size key (Damaged want got) = IsSome size
IsOfStored size key Shelf = ⊤
IsOfStored size key NoMemory = ⊤

-- the same is stored already: the shelf may give these very bytes
abbrev pub IsFoundSame : (Slot → Option (List ℕ) → Type 0) → Key → List ℕ → Put → Type 0
IsFoundSame may_give key bytes New = ⊤
IsFoundSame may_give key bytes Same = may_give (Object key) (Some bytes)
