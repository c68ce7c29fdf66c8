-- Where a name's extension begins. The key lemmas are ext_at-dot, ext_at-none and ext_at-boundary.
use Rattle.std.proofs.Common.{◌≡◌, ◌≢◌, ℕ, zero, suc, ◌+◌, ◌-◌, ◌<◌, ◌≤◌, ◌⊎◌, inl, inr, true, false, not, ◌==◌, List, [], ◌∷◌, length, get_or, refl, ap, ◌∙◌, subst, arith, ne_eqb, eq-eqb, IsCharBoundary}
use Rattle.std.proofs.lemmas.Bool.{cases_lt, cases_order}
use Rattle.std.proofs.lemmas.List.{length-take-le}
use Rattle.std.proofs.lemmas.List.Sums.{suffix_len_is}
use Rattle.std.proofs.lemmas.Str.{IsCharBoundary-before_ascii, IsCharBoundary-end}
use Rattle.std.specs.List.{before_last, suffix_len}
use Rattle.conflict_names.specs.Naming.{ext_at, is_dot}

by_place : (name : List ℕ) (place : ℕ) → length (before_last is_dot name) ≡ place → 0 < place → ext_at name ≡ place
unfolding ext_at
by_place name place e some = let there : (length (before_last is_dot name) == 0) ≡ false = ne_eqb _ _ (λ z. absurd (omega (arith, z, e))) in rw there e

by_none : (name : List ℕ) → length (before_last is_dot name) ≡ 0 → ext_at name ≡ length name
unfolding ext_at
by_none name e = let none : (length (before_last is_dot name) == 0) ≡ true = eq-eqb _ _ e in rw none refl

no_dot : (b : ℕ) → b ≢ 46 → not (is_dot b) ≡ true
no_dot b h = let apart : (b == 46) ≡ false = ne_eqb b 46 h in rw apart refl

dot : (b : ℕ) → b ≡ 46 → not (is_dot b) ≡ false
dot b h = let same : (b == 46) ≡ true = eq-eqb b 46 h in rw same refl

-- the length of what stands before the last dot, where n bytes end with it
length-before_last : (name : List ℕ) (n : ℕ) → n ≤ length name → ((k : ℕ) → n ≤ k → k < length name → get_or name k 0 ≢ 46)
    → (0 < n → get_or name (n - 1) 0 ≡ 46) → length (before_last is_dot name) ≡ n - 1
length-before_last name n fits none last =
    let long : suffix_len (λ x. not (is_dot x)) name ≡ length name - n =
    suffix_len_is (λ x. not (is_dot x)) name n 0 fits (λ k low high. no_dot _ (none k low high)) (λ some. dot _ (last some)) in
    let place : length name - suffix_len (λ x. not (is_dot x)) name - 1 ≡ n - 1 = omega (arith, long) in
    length-take-le (length name - suffix_len (λ x. not (is_dot x)) name - 1) name (omega (arith, place)) ∙ place

pub ext_at-dot : (name : List ℕ) (n : ℕ) → 0 < n → n < length name → get_or name n 0 ≡ 46
    → ((k : ℕ) → n + 1 ≤ k → k < length name → get_or name k 0 ≢ 46) → ext_at name ≡ n
ext_at-dot name n some fits at none =
    by_place name n (length-before_last name (n + 1) (omega arith) none (λ _. ap (λ (k : ℕ). get_or name k 0) (omega arith) ∙ at) ∙ omega arith) some

pub ext_at-none : (name : List ℕ) → ((k : ℕ) → 1 ≤ k → k < length name → get_or name k 0 ≢ 46) → ext_at name ≡ length name
ext_at-none [] none = by_none [] refl
ext_at-none (b ∷ name) none =
    elim (cases_order b 46) [
      | inl same ↦ by_none (b ∷ name) (length-before_last (b ∷ name) 1 (omega arith) none (λ _. same))
      | inr apart ↦ by_none (b ∷ name) (length-before_last (b ∷ name) 0 (omega arith) (first apart) (λ h. absurd (omega arith)))
    ]
  where
    first : (b < 46) ⊎ (46 < b) → (k : ℕ) → 0 ≤ k → k < length (b ∷ name) → get_or (b ∷ name) k 0 ≢ 46
    first apart zero low high e = elim apart [ inl lt ↦ omega arith | inr gt ↦ omega arith ]
    first apart (suc k) low high e = none (suc k) (omega arith) high e

-- a name's extension begins within the name, and where it isn't empty with a dot
pub record IsPlaced (name : List ℕ) : Type 0 where
  pub within : ext_at name ≤ length name
  pub dot : ext_at name < length name → get_or name (ext_at name) 0 ≡ 46

placed_from : (name : List ℕ) (n : ℕ) → n ≤ length name → ((k : ℕ) → n ≤ k → k < length name → get_or name k 0 ≢ 46) → IsPlaced name
placed_from name zero fits none =
    let end = ext_at-none name (λ k low high. none k (omega arith) high) in record { within = omega (arith, end); dot = λ h. absurd (omega (arith, end)) }
placed_from name (suc zero) fits none =
    let end = ext_at-none name (λ k low high. none k (omega arith) high) in record { within = omega (arith, end); dot = λ h. absurd (omega (arith, end)) }
placed_from name (suc (suc n)) fits none =
    elim (cases_order (get_or name (suc n) 0) 46) [
      | inl same ↦ let at = ext_at-dot name (suc n) (omega arith) (omega arith) same (λ k low high. none k (omega arith) high) in
          record { within = omega (arith, at); dot = λ _. ap (λ (k : ℕ). get_or name k 0) at ∙ same }
      | inr apart ↦ placed_from name (suc n) (omega arith) (more apart)
    ]
  where
    more : (get_or name (suc n) 0 < 46) ⊎ (46 < get_or name (suc n) 0) → (k : ℕ) → suc n ≤ k → k < length name → get_or name k 0 ≢ 46
    more apart k low high e =
        elim (cases_order k (suc n)) [
          | inl same ↦ let there : get_or name (suc n) 0 ≡ 46 = subst (λ (j : ℕ). get_or name j 0 ≡ 46) same e in
              elim apart [ inl lt ↦ omega arith | inr gt ↦ omega arith ]
          | inr (inl lt) ↦ omega arith
          | inr (inr gt) ↦ none k (omega arith) high e
        ]

pub placed : (name : List ℕ) → IsPlaced name
placed name = placed_from name (length name) (omega arith) (λ k low high. absurd (omega arith))

-- so a text may be cut there
pub ext_at-boundary : (name : List ℕ) → IsCharBoundary name (ext_at name)
ext_at-boundary name =
    elim (cases_lt (ext_at name) (length name)) [
      | inl lt ↦ IsCharBoundary-before_ascii name (ext_at name) lt (omega (arith, (placed name).dot lt))
      | inr ge ↦ let end : length name ≡ ext_at name = omega (arith, (placed name).within) in subst (IsCharBoundary name) end (IsCharBoundary-end name)
    ]
