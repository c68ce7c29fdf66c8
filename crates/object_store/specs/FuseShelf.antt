-- A shelf that stops after so many calls, as contracts see it. Read first: MemoryShelf. Our own.
use Rattle.std.specs.Prelude.{◌≡◌, ℕ, ◌-◌, ◌<◌, Bool, true, false, List, Option, Some, Result, Err, nat_lt, if◌then◌else◌, ⊤, refl}
use Rattle.std.specs.Coded.{Coded, code_by, coded×, coded_bool, coded_ℕ}
use Rattle.ids.specs.FaultCount.{counted}
use Rattle.object_store.specs.MemoryShelf.{ShelfAnswers, MemoryShelfState, memory_shelf_code, what_is_told}
use Rattle.object_store.specs.Shelf.{Contents, lies_in}
use Rattle.object_store.specs.declared.shelf.ShelfFailed.{ShelfFailed}
use Rattle.object_store.specs.declared.shelf.ShelfFailed.TheVariants.{Shelf, NoMemory}
use Rattle.object_store.specs.declared.shelf.Slot.{Slot}

-- `left` is the number of calls that it still passes on; where it stops `late`, a put or a removal at which it stops is
-- done all the same; `texts` counts the puts of the status text, in proofs alone
pub record FuseShelfState : Type 0 where
  pub inner : MemoryShelfState
  pub left : ℕ
  pub late : Bool
  pub faults : ℕ
  pub texts : ℕ

-- it is stored as its fields
abbrev pub fuse_shelf_code : Coded FuseShelfState
fuse_shelf_code = code_by (MemoryShelfState × (ℕ × (Bool × (ℕ × ℕ)))) (coded× memory_shelf_code (coded× coded_ℕ (coded× coded_bool (coded× coded_ℕ coded_ℕ))))
    (λ shelf. (shelf.inner, (shelf.left, (shelf.late, (shelf.faults, shelf.texts)))))
    (λ t. record { inner = t.0; left = t.1.0; late = t.1.1.0; faults = t.1.1.1.0; texts = t.1.1.1.1 }) (λ _. refl)

-- the shelf once the next call was counted
abbrev pub burnt : FuseShelfState → FuseShelfState
burnt shelf = record shelf {
  left = shelf.left - 1;
  late = if nat_lt 0 shelf.left then shelf.late else false;
  faults = if nat_lt 0 shelf.left then shelf.faults else counted shelf.faults;
}

-- the shelf after a call that the shelf in memory refused
abbrev pub failed_by : FuseShelfState → ShelfFailed → FuseShelfState
failed_by shelf Shelf = record shelf { faults = counted shelf.faults }
failed_by shelf NoMemory = shelf

-- one call fewer is left; it is the shelf's in memory, but where none was left it failed, and only the first such call may
-- be late
pub record Passes {T : Type 0} (old new : FuseShelfState) (changed : Contents) (result : Result T ShelfFailed) : Type 0 where
  pub left : new.left ≡ old.left - 1
  pub late : new.late ≡ (if nat_lt 0 old.left then old.late else false)
  pub passed : 0 < old.left → ShelfAnswers old.inner new.inner changed result
  pub stopped : old.left ≡ 0 → result ≡ Err Shelf

-- a call that reads changes nothing where it failed
pub record PassesRead {T : Type 0} (old new : FuseShelfState) (result : Result T ShelfFailed) : Type 0 where
  pub passes : Passes old new old.inner.contents result
  pub kept : old.left ≡ 0 → new.inner ≡ old.inner

-- a call that changes a slot changes nothing where it failed, but that the shelf in memory answered it where it was late
pub record PassesChange (old new : FuseShelfState) (changed : Contents) (result : Result ⊤ ShelfFailed) : Type 0 where
  pub passes : Passes old new changed result
  pub kept : old.left ≡ 0 → old.late ≡ false → new.inner ≡ old.inner
  pub made : old.left ≡ 0 → old.late ≡ true → (answer : Result ⊤ ShelfFailed) × ShelfAnswers old.inner new.inner changed answer

-- it gives what it tells
pub fuse_told : (shelf : FuseShelfState) (held : Contents) (slot : Slot) (given : Option (List ℕ))
    → Some shelf.inner.contents ≡ Some held → given ≡ lies_in shelf.inner.contents slot → given ≡ lies_in held slot
fuse_told shelf held slot given told is = what_is_told shelf.inner held slot given told is
