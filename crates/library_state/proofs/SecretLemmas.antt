-- Secrets, byte by byte. The key lemma is same_so_far.
use Rattle.std.proofs.Common.{◌≡◌, ℕ, zero, suc, ◌+◌, ◌<◌, Bool, true, false, ◌&&◌, nat_eq, List, [], ◌∷◌, length, take, slice_index_or, refl, ap, ◌∙◌, arith}
use Rattle.std.specs.Str.{bytes_eq}

and_true : (b : Bool) → b ≡ (b && true)
and_true true = refl
and_true false = refl

and_joins : (a b c : Bool) → ((a && b) && c) ≡ (a && (b && c))
and_joins true b c = refl
and_joins false b c = refl

next_same : (n : ℕ) (xs ys : List ℕ) → n < length xs → n < length ys
    → (bytes_eq (take n xs) (take n ys) && nat_eq (slice_index_or xs n 0) (slice_index_or ys n 0)) ≡ bytes_eq (take (suc n) xs) (take (suc n) ys)
next_same n [] ys within other = absurd (omega arith)
next_same n (x ∷ xs) [] within other = absurd (omega arith)
next_same zero (x ∷ xs) (y ∷ ys) within other = and_true (nat_eq x y)
next_same (suc n) (x ∷ xs) (y ∷ ys) within other =
    and_joins (nat_eq x y) (bytes_eq (take n xs) (take n ys)) (nat_eq (slice_index_or xs n 0) (slice_index_or ys n 0))
    ∙ ap (λ b. nat_eq x y && b) (next_same n xs ys (omega (arith, within)) (omega (arith, other)))

-- one byte more
pub same_so_far : (n : ℕ) (xs ys : List ℕ) (same : Bool) → n < length xs → n < length ys → same ≡ bytes_eq (take n xs) (take n ys)
    → (same && nat_eq (slice_index_or xs n 0) (slice_index_or ys n 0)) ≡ bytes_eq (take (n + 1) xs) (take (n + 1) ys)
same_so_far n xs ys same within other is =
    ap (λ b. b && nat_eq (slice_index_or xs n 0) (slice_index_or ys n 0)) is
    ∙ next_same n xs ys within other
    ∙ ap (λ m. bytes_eq (take m xs) (take m ys)) (one_more n)
  where
    one_more : (m : ℕ) → suc m ≡ m + 1
    one_more m = omega arith
