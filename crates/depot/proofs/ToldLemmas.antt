-- What is told through an Option, and heads of histories. The key lemmas are mapped_at, written_at and head_at.
use Rattle.std.proofs.Common.{◌≡◌, ◌≢◌, ℕ, suc, ◌-◌, List, [], ◌∷◌, length, get_or, refl, sym, ap, ◌∙◌, arith, Option, None, Some, option_map, Result, Ok, Err}
use Rattle.library_rules.specs.LibraryState.{head_of}
use Rattle.library_state.specs.declared.history.Install.{Install}

-- what stands under a map that gave something
pub record MappedAt {A B : Type 0} (f : A → B) (o : Option A) (y : B) : Type 0 where
  pub value : A
  pub is : o ≡ Some value
  pub gives : f value ≡ y

pub mapped_at : {A B : Type 0} (f : A → B) (o : Option A) (y : B) → option_map f o ≡ Some y → MappedAt f o y
mapped_at f None y e = cc
mapped_at f (Some x) y e = record { value = x; is = refl; gives = cc }

-- the last one has the head
pub head_at : (kept : List Install) (d : Install) → kept ≢ [] → (get_or kept (length kept - 1) d).head ≡ head_of kept
head_at [] d some = absurd (some refl)
head_at (x ∷ []) d some = refl
head_at (x ∷ y ∷ kept) d some =
    ap (λ i. (get_or (x ∷ y ∷ kept) i d).head) (one_less (suc (length kept)))
    ∙ sym (ap (λ i. (get_or (y ∷ kept) i d).head) (one_less (length kept)))
    ∙ head_at (y ∷ kept) d cons
  where
    one_less : (n : ℕ) → suc n - 1 ≡ n
    one_less n = omega arith

    cons : y ∷ kept ≢ []
    cons e = cc

-- what is good isn't refused
pub ok_not_err : {A E : Type 0} (r : Result A E) (x : A) (e : E) → r ≡ Ok x → r ≡ Err e → ⊥
ok_not_err r x e good bad = cc
