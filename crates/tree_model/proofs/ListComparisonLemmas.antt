-- How two lists of bytes compare from a place on, told by what stands there.
use Rattle.std.proofs.Common.{◌≡◌, ℕ, ◌+◌, ◌≢◌, List, [], ◌∷◌, drop, slice_get, Some, None, refl, sym, ap, ap₂, ◌∙◌, nat_cmp, Less, Equal, Greater, Ordering, drop_of_length-le, inl, inr}
use Rattle.std.proofs.lemmas.Option.{slice_get_within, get_or_from_slice_get, slice_get_cases}
use Rattle.std.proofs.lemmas.List.{drop_more}
use Rattle.std.specs.Ordering.{ordering_then}
use Rattle.std.specs.Cmp.{tied_itself, nat_cmp_total}
use Rattle.std.specs.Cmp.Lexicographic.{slice_cmp}
use Rattle.std.specs.FinMap.{nat_cmp-IsAntisymmetric}

pub drop_at_some : (xs : List ℕ) (k x : ℕ) → Some x ≡ slice_get xs k → drop k xs ≡ x ∷ drop (k + 1) xs
drop_at_some xs k x e =
    drop_more xs k x (slice_get_within xs k x (sym e)) ∙ ap (λ y. y ∷ drop (k + 1) xs) (get_or_from_slice_get xs k x x (sym e))

pub drop_at_none : (xs : List ℕ) (k : ℕ) → None ≡ slice_get xs k → drop k xs ≡ []
drop_at_none xs k e =
    elim ((slice_get_cases xs k).1) [
      | inl h ↦ cc (h.2)
      | inr h ↦ drop_of_length-le xs h.0
    ]

module _ (xs ys : List ℕ) (k : ℕ) where
  pub compared_same : (x y : ℕ) → Some x ≡ slice_get xs k → Some y ≡ slice_get ys k → x ≡ y
      → slice_cmp nat_cmp (drop k xs) (drop k ys) ≡ slice_cmp nat_cmp (drop (k + 1) xs) (drop (k + 1) ys)
  compared_same x y e f same =
      ap₂ (slice_cmp nat_cmp) (drop_at_some xs k x e) (drop_at_some ys k y f)
      ∙ ap (λ r. ordering_then r (slice_cmp nat_cmp (drop (k + 1) xs) (drop (k + 1) ys))) (ap (nat_cmp x) (sym same) ∙ tied_itself nat_cmp_total x)

  pub compared_apart : (x y : ℕ) → Some x ≡ slice_get xs k → Some y ≡ slice_get ys k → x ≢ y
      → nat_cmp x y ≡ slice_cmp nat_cmp (drop k xs) (drop k ys)
  compared_apart x y e f apart =
      sym (ap₂ (slice_cmp nat_cmp) (drop_at_some xs k x e) (drop_at_some ys k y f)
      ∙ decided (nat_cmp x y) refl)
    where
      rest : Ordering
      rest = slice_cmp nat_cmp (drop (k + 1) xs) (drop (k + 1) ys)

      decided : (r : Ordering) → nat_cmp x y ≡ r → ordering_then r rest ≡ r
      decided Less is = refl
      decided Equal is = absurd (apart (nat_cmp-IsAntisymmetric x y is))
      decided Greater is = refl

  pub compared_longer : (x : ℕ) → Some x ≡ slice_get xs k → None ≡ slice_get ys k → Greater ≡ slice_cmp nat_cmp (drop k xs) (drop k ys)
  compared_longer x e f = sym (ap₂ (slice_cmp nat_cmp) (drop_at_some xs k x e) (drop_at_none ys k f))

  pub compared_shorter : (y : ℕ) → None ≡ slice_get xs k → Some y ≡ slice_get ys k → Less ≡ slice_cmp nat_cmp (drop k xs) (drop k ys)
  compared_shorter y e f = sym (ap₂ (slice_cmp nat_cmp) (drop_at_none xs k e) (drop_at_some ys k y f))

  pub compared_ends : None ≡ slice_get xs k → None ≡ slice_get ys k → Equal ≡ slice_cmp nat_cmp (drop k xs) (drop k ys)
  compared_ends e f = sym (ap₂ (slice_cmp nat_cmp) (drop_at_none xs k e) (drop_at_none ys k f))
