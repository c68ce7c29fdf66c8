-- A shelf that gives odd bytes for one slot, as contracts see it. Read first: MemoryShelf. Our own.
use Rattle.std.specs.Prelude.{◌≡◌, ℕ, List, Option, None, Some, is_some, Result, Ok, Err, ⊤, refl}
use Rattle.std.proofs.Common.{ap, sym, true≢false}
use Rattle.std.specs.Coded.{Coded, code_by, coded×, coded_list, coded_option, coded_ℕ}
use Rattle.object_store.specs.MemoryShelf.{MemoryShelfState, memory_shelf_code}
use Rattle.object_store.specs.Shelf.{Contents, lies_in}
use Rattle.object_store.specs.contracts.shelf.Slot as slot_contracts
use Rattle.object_store.specs.declared.shelf.ShelfFailed.{ShelfFailed}
use Rattle.object_store.specs.declared.shelf.Slot.{Slot}

-- `odd` is what the slot gives, until it is put or removed
pub record OddShelfState : Type 0 where
  pub inner : MemoryShelfState
  pub slot : Slot
  pub odd : Option (List ℕ)

-- it is stored as its fields
abbrev pub odd_shelf_code : Coded OddShelfState
odd_shelf_code = code_by (MemoryShelfState × (Slot × Option (List ℕ)))
    (coded× memory_shelf_code (coded× slot_contracts.the_row.coded (coded_option (coded_list coded_ℕ))))
    (λ shelf. (shelf.inner, (shelf.slot, shelf.odd))) (λ t. record { inner = t.0; slot = t.1.0; odd = t.1.1 }) (λ _. refl)

-- the odd bytes, or what is stored where there are none
abbrev pub odd_or : Option (List ℕ) → Option (List ℕ) → Option (List ℕ)
odd_or None stored = stored
odd_or (Some odd) stored = Some odd

-- a fetch gives the odd bytes for the slot, and what is stored for any other
pub record GivesOdd (shelf : OddShelfState) (slot : Slot) (given : Option (List ℕ)) : Type 0 where
  pub here : shelf.slot ≡ slot → given ≡ odd_or shelf.odd (lies_in shelf.inner.contents slot)
  pub elsewhere : (shelf.slot ≡ slot → ⊥) → given ≡ lies_in shelf.inner.contents slot

-- the slot and its odd bytes are as they were
pub record KeepsOdd (old new : OddShelfState) : Type 0 where
  pub slot : new.slot ≡ old.slot
  pub odd : new.odd ≡ old.odd

-- a put or a removal in the slot ends the odd bytes
abbrev pub OddAfter : OddShelfState → OddShelfState → Slot → Result ⊤ ShelfFailed → Type 0
OddAfter old new slot (Ok done) =
    (new.slot ≡ old.slot) × ((old.slot ≡ slot → new.odd ≡ None) × ((old.slot ≡ slot → ⊥) → new.odd ≡ old.odd))
OddAfter old new slot (Err failed) = KeepsOdd old new

-- it doesn't tell what it holds
pub nothing_told : (shelf : OddShelfState) (held : Contents) (slot : Slot) (given : Option (List ℕ))
    → ◌≡◌ {A = Option Contents} None (Some held) → GivesOdd shelf slot given → given ≡ lies_in held slot
nothing_told shelf held slot given e gives = absurd (true≢false (sym (ap is_some e)))
