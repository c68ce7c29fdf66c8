-- The numerals of numbers. The key lemmas are numeral-injective, number_text-injective and number_text-many.
use Rattle.std.proofs.Common.{◌≡◌, ◌≢◌, ℕ, zero, suc, ◌+◌, ◌/◌, ◌^◌, ◌<◌, ◌≤◌, inl, inr, true, false, nat_lt, List, [], ◌∷◌, ◌++◌, decimal, refl, sym, ap, ◌∙◌, arith, lt-ltb, le-ltb}
use Rattle.std.proofs.lemmas.Bool.{cases_lt}
use Rattle.std.proofs.lemmas.List.{same_from_push}
use Rattle.std.proofs.lemmas.Fmt.{AppendsLastDigit, decimal_from_appends, length-decimal-le_succ}
use Rattle.conflict_names.specs.CivilTime.{digit}
use Rattle.conflict_names.specs.Naming.{numeral, numeral_in, number_text}

one_digit : (steps n : ℕ) → n < 10 → numeral_in (suc steps) n ≡ digit n ∷ []
one_digit steps n low = let small : nat_lt n 10 ≡ true = lt-ltb n 10 low in rw small refl

more_digits : (steps n : ℕ) → 10 ≤ n → numeral_in (suc steps) n ≡ numeral_in steps (n / 10) ++ digit n ∷ []
more_digits steps n high = let large : nat_lt n 10 ≡ false = le-ltb n 10 high in rw large refl

appends : AppendsLastDigit numeral_in
appends = record {
  one = λ k n low. one_digit k n low ∙ ap (λ (x : ℕ). (48 + x) ∷ []) (omega arith);
  more = λ k n high. more_digits k n high;
}

pub numeral-decimal : (n : ℕ) → n < 2 ^ 64 → numeral n ≡ decimal n
unfolding numeral
numeral-decimal n fits = decimal_from_appends numeral_in appends (n + 1) n fits (length-decimal-le_succ n fits)

pub number_text-many : (k : ℕ) → 2 ≤ k → k < 2 ^ 64 → number_text k ≡ 45 ∷ decimal k
number_text-many k many fits = let large : nat_lt k 2 ≡ false = le-ltb k 2 many in rw large (ap (λ (x : List ℕ). 45 ∷ x) (numeral-decimal k fits))

no_push : (xs : List ℕ) (x : ℕ) → xs ++ x ∷ [] ≢ []
no_push [] x e = cc
no_push (y ∷ xs) x e = cc

some_digit : (steps n : ℕ) → n < steps → numeral_in steps n ≢ []
some_digit zero n fits e = absurd (omega arith)
some_digit (suc steps) n fits e =
    elim (cases_lt n 10) [
      | inl low ↦ let one = one_digit steps n low in cc
      | inr high ↦ no_push (numeral_in steps (n / 10)) (digit n) (sym (more_digits steps n high) ∙ e)
    ]

not_one : (xs : List ℕ) (x y : ℕ) → y ∷ [] ≡ xs ++ x ∷ [] → xs ≡ []
not_one xs x y e = sym (same_from_push [] xs y x e).0

pub numeral_in-injective : (s t i j : ℕ) → i < s → j < t → numeral_in s i ≡ numeral_in t j → i ≡ j
numeral_in-injective zero t i j a b e = absurd (omega arith)
numeral_in-injective (suc s) zero i j a b e = absurd (omega arith)
numeral_in-injective (suc s) (suc t) i j a b e =
    elim (cases_lt i 10) [
      | inl low ↦ elim (cases_lt j 10) [
        | inl low' ↦ let same : digit i ∷ [] ≡ digit j ∷ [] = sym (one_digit s i low) ∙ e ∙ one_digit t j low' in
            let last : digit i ≡ digit j = cc in omega arith
        | inr high' ↦ absurd (some_digit t (j / 10) (omega arith) (not_one _ _ _ (sym (one_digit s i low) ∙ e ∙ more_digits t j high')))
      ]
      | inr high ↦ elim (cases_lt j 10) [
        | inl low' ↦ absurd (some_digit s (i / 10) (omega arith) (not_one _ _ _ (sym (one_digit t j low') ∙ sym e ∙ more_digits s i high)))
        | inr high' ↦ let parts = same_from_push _ _ _ _ (sym (more_digits s i high) ∙ e ∙ more_digits t j high') in
            let front : i / 10 ≡ j / 10 = numeral_in-injective s t (i / 10) (j / 10) (omega arith) (omega arith) parts.0 in
            let last : digit i ≡ digit j = parts.1 in omega arith
      ]
    ]

pub numeral-injective : (i j : ℕ) → numeral i ≡ numeral j → i ≡ j
unfolding numeral
numeral-injective i j e = numeral_in-injective (i + 1) (j + 1) i j (omega arith) (omega arith) e

pub number_text-injective : (i j : ℕ) → 1 ≤ i → 1 ≤ j → number_text i ≡ number_text j → i ≡ j
number_text-injective i j a b e =
    elim (cases_lt i 2) [
      | inl low ↦ elim (cases_lt j 2) [
        | inl low' ↦ omega arith
        | inr high' ↦ let small : nat_lt i 2 ≡ true = lt-ltb i 2 low in let large : nat_lt j 2 ≡ false = le-ltb j 2 high' in cc (rw (small, large) at e)
      ]
      | inr high ↦ elim (cases_lt j 2) [
        | inl low' ↦ let small : nat_lt j 2 ≡ true = lt-ltb j 2 low' in let large : nat_lt i 2 ≡ false = le-ltb i 2 high in cc (rw (small, large) at e)
        | inr high' ↦ let large : nat_lt i 2 ≡ false = le-ltb i 2 high in let large' : nat_lt j 2 ≡ false = le-ltb j 2 high' in
            let same = rw (large, large') at e in
            let texts : numeral i ≡ numeral j = cc in numeral-injective i j texts
      ]
    ]
