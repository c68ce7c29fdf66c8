-- A shelf in memory of which no call fails, as contracts see it. Our own.
-- Read first: MemoryShelf of object_store.
use Rattle.std.specs.Prelude.{◌≡◌, ℕ, List, [], Option, Some, unwrap_or, refl}
use Rattle.std.specs.Coded.{Coded, code_by, coded×, coded_ℕ}
use Rattle.std.proofs.Common.{ap, ◌∙◌}
use Rattle.object_store.specs.MemoryShelf.{MemoryShelfState}
use Rattle.object_store.specs.Shelf.{Contents, contents_code, lies_in}
use Rattle.object_store.specs.declared.shelf.Slot.{Slot}

-- what it holds, and in proofs alone how many puts of the status text it was asked for
pub record SteadyShelfState : Type 0 where
  pub contents : Contents
  pub texts : ℕ

-- it is stored as its fields
abbrev pub steady_shelf_code : Coded SteadyShelfState
steady_shelf_code = code_by (Contents × ℕ) (coded× contents_code coded_ℕ) (λ shelf. (shelf.contents, shelf.texts))
    (λ pair. record { contents = pair.0; texts = pair.1 }) (λ _. refl)

-- no call is to fail, and none did
pub record IsSteady (shelf : MemoryShelfState) : Type 0 where
  pub fails : shelf.fails ≡ []
  pub faults : shelf.faults ≡ 0

told_some : {held given : Contents} → Some held ≡ Some given → held ≡ given
told_some {held} e = ap (λ o. unwrap_or o held) e

-- it gives what it tells
pub steady_told : (shelf : SteadyShelfState) (held : Contents) (slot : Slot) (given : Option (List ℕ))
    → Some shelf.contents ≡ Some held → given ≡ lies_in shelf.contents slot → given ≡ lies_in held slot
steady_told shelf held slot given told is = is ∙ ap (λ c. lies_in c slot) (told_some told)
