-- What a shelf holds, and what its calls do to it. Our own. Read Contents first, then Changes and FindsNext, then
-- GivesNoMore, GivesAlso and LaysBy.
-- What is told is an Option: a shelf in memory tells its contents, an adapter over a real one tells None.
use Rattle.std.specs.Prelude.{◌≡◌, ◌⊎◌, ◌+◌, ℕ, Bool, true, false, List, length, Option, None, Some, IsSome, Result, Ok, Err, ⊤, option_map, refl}
use Rattle.std.specs.Coded.{Coded, code_by, coded×, coded_list, coded_option, coded_ℕ}
use Rattle.std.specs.FinMap as map
use Rattle.std.specs.Ordering.{is_gt}
use Rattle.ids.specs.FaultCount.{FailsBy}
use Rattle.ids.specs.Key.{Objects}
use Rattle.ids.specs.MapView.{IsAbove}
use Rattle.ids.specs.ObjectId.{id_cmp}
use Rattle.ids.specs.contracts.key.Key as key_contracts
use Rattle.ids.specs.declared.key.Kind.{Kind}
use Rattle.object_store.specs.declared.shelf.Found.{Found}
use Rattle.object_store.specs.declared.shelf.ShelfFailed.{ShelfFailed}
use Rattle.object_store.specs.declared.shelf.ShelfFailed.TheVariants.{Shelf, NoMemory}
use Rattle.object_store.specs.declared.shelf.Slot.{Slot}
use Rattle.object_store.specs.declared.shelf.Slot.TheVariants.{Object, Status}

-- what lies on a shelf: objects under their keys, and the text of the status slot
pub record Contents : Type 0 where
  pub objects : Objects
  pub status : Option (List ℕ)

-- contents are stored as the pair of their fields
abbrev pub contents_code : Coded Contents
contents_code = code_by (Objects × Option (List ℕ)) (coded× (map.code key_contracts.the_row.coded (coded_list coded_ℕ)) (coded_option (coded_list coded_ℕ)))
    (λ held. (held.objects, held.status)) (λ pair. record { objects = pair.0; status = pair.1 }) (λ _. refl)

-- what lies in a slot
abbrev pub lies_in : Contents → Slot → Option (List ℕ)
lies_in contents (Object key) = map.get contents.objects key
lies_in contents Status = contents.status

-- the contents with these bytes in the slot
abbrev pub with_put : Contents → Slot → List ℕ → Contents
with_put contents (Object key) bytes = record contents { objects = map.insert contents.objects key bytes }
with_put contents Status bytes = record contents { status = Some bytes }

-- the contents with nothing in the slot
abbrev pub without : Contents → Slot → Contents
without contents (Object key) = record contents { objects = map.remove contents.objects key }
without contents Status = record contents { status = None }

-- the same of contents that may be told
abbrev pub put_known : Option Contents → Slot → List ℕ → Option Contents
put_known known slot bytes = option_map (λ contents. with_put contents slot bytes) known

abbrev pub removed_known : Option Contents → Slot → Option Contents
removed_known known slot = option_map (λ contents. without contents slot) known

-- a put or a removal is done; where the shelf failed it may be done; where there was no memory it isn't
abbrev pub Changes : Option Contents → Option Contents → Option Contents → Result ⊤ ShelfFailed → Type 0
Changes old changed new (Ok done) = new ≡ changed
Changes old changed new (Err Shelf) = (new ≡ old) ⊎ (new ≡ changed)
Changes old changed new (Err NoMemory) = new ≡ old

-- found is the object of the kind with the least id above `after`
pub record IsNextFound (objects : Objects) (kind : Kind) (after : Option (List ℕ)) (found : Found) : Type 0 where
  pub there : option_map length (map.get objects (record { kind = kind; id = found.id })) ≡ Some found.size
  pub above : IsAbove id_cmp after found.id
  pub least : (id : List ℕ) → IsAbove id_cmp after id → IsSome (map.get objects (record { kind = kind; id = id }))
      → is_gt (id_cmp found.id id) ≡ false

-- the next object of the kind above `after`, and none where there is none
abbrev pub FindsNext : Objects → Kind → Option (List ℕ) → Option Found → Type 0
FindsNext objects kind after None =
    (id : List ℕ) → IsAbove id_cmp after id → map.get objects (record { kind = kind; id = id }) ≡ None
FindsNext objects kind after (Some found) = IsNextFound objects kind after found

-- the failure that the shelf counts
abbrev pub is_counted : ShelfFailed → Bool
is_counted Shelf = true
is_counted NoMemory = false

-- a call answers Shelf only where the count rose, and else the count stays
abbrev pub CountsFaults : {T : Type 0} → ℕ → ℕ → Result T ShelfFailed → Type 0
CountsFaults before now result = FailsBy is_counted before now result

-- ---- what a fetch may give, after a call and before it

-- a shelf with these contents gives what lies there
abbrev pub Tells : Contents → Slot → Option (List ℕ) → Type 0
Tells held slot given = given ≡ lies_in held slot

-- what may be given after a call might be given before it
abbrev pub GivesNoMore : (Slot → Option (List ℕ) → Type 0) → (Slot → Option (List ℕ) → Type 0) → Type 0
GivesNoMore before now = (slot : Slot) (given : Option (List ℕ)) → now slot given → before slot given

-- the same, but for one slot and what the call lays there
abbrev pub GivesAlso : (Slot → Option (List ℕ) → Type 0) → (Slot → Option (List ℕ) → Type 0) → Slot → Option (List ℕ) → Type 0
GivesAlso before now slot laid =
    (at : Slot) (given : Option (List ℕ)) → now at given → before at given ⊎ ((at ≡ slot) × (given ≡ laid))

-- a call that was refused, but for such failures, lets a fetch give no more
abbrev pub LaysBy : {E T : Type 0} → (E → Bool) → (Slot → Option (List ℕ) → Type 0) → (Slot → Option (List ℕ) → Type 0) → Result T E → Type 0
LaysBy may before now (Ok done) = ⊤
LaysBy may before now (Err why) = may why ≡ false → GivesNoMore before now

-- the number of status texts that were put, once one is put into this slot
abbrev pub texts_after : Slot → ℕ → ℕ
texts_after (Object key) texts = texts
texts_after Status texts = texts + 1
