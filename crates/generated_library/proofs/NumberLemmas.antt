-- The numbers of a sequence, one draw after another. The key lemmas are next_by, drawn_more, number_more, drawn_all and number_all.
use Rattle.std.proofs.Common.{◌≡◌, ◌≤◌, ◌<◌, ◌+◌, ◌-◌, ◌*◌, ◌%◌, ℕ, suc, List, [], ◌∷◌, ◌++◌, append_assoc, append-nil, arith, sym, ap, ap₂, ◌∙◌}
use Rattle.std.proofs.Math.Nat.{mod-add-mod}
use Rattle.generated_library.specs.Generated.{byte_of, drawn_bytes, next_number, number_after}

-- the next number, multiplied and added in 64 bits
pub next_by : (x : ℕ) → ((x * 6364136223846793005) % 18446744073709551616 + 1442695040888963407) % 18446744073709551616 ≡ next_number x
next_by x = mod-add-mod (x * 6364136223846793005) 18446744073709551616 1442695040888963407

one_less : (size i : ℕ) → i < size → size - i ≡ suc (size - (i + 1))
one_less size i below = omega (arith, below)

no_more : (size i : ℕ) → size ≤ i → size - i ≡ 0
no_more size i past = omega (arith, past)

whole : (size : ℕ) → size - 0 ≡ size
whole size = omega arith

-- none was drawn yet
pub drawn_begun : (size x y : ℕ) (bytes : List ℕ) → bytes ≡ [] → y ≡ next_number x → bytes ++ drawn_bytes (size - 0) y ≡ drawn_bytes size (next_number x)
drawn_begun size x y bytes empty after = ap₂ (λ (b : List ℕ) (n : ℕ). b ++ drawn_bytes n y) empty (whole size) ∙ ap (λ z. drawn_bytes size z) after

pub number_begun : (size x y : ℕ) → y ≡ next_number x → number_after (size - 0) y ≡ number_after size (next_number x)
number_begun size x y after = ap₂ (λ (n z : ℕ). number_after n z) (whole size) after

-- with one byte more, the bytes so far and those that are left are the same
pub drawn_more : (size i x : ℕ) (bytes all : List ℕ) → i < size → bytes ++ drawn_bytes (size - i) x ≡ all → (bytes ++ byte_of x ∷ []) ++ drawn_bytes (size - (i + 1)) (next_number x) ≡ all
drawn_more size i x bytes all below is =
    append_assoc bytes (byte_of x ∷ []) (drawn_bytes (size - (i + 1)) (next_number x)) ∙ (ap (λ n. bytes ++ drawn_bytes n x) (sym (one_less size i below)) ∙ is)

pub number_more : (size i x all : ℕ) → i < size → number_after (size - i) x ≡ all → number_after (size - (i + 1)) (next_number x) ≡ all
number_more size i x all below is = ap (λ n. number_after n x) (sym (one_less size i below)) ∙ is

pub drawn_all : (size i x : ℕ) (bytes all : List ℕ) → size ≤ i → bytes ++ drawn_bytes (size - i) x ≡ all → bytes ≡ all
drawn_all size i x bytes all past is = sym (ap (λ n. bytes ++ drawn_bytes n x) (no_more size i past) ∙ append-nil bytes) ∙ is

pub number_all : (size i x all : ℕ) → size ≤ i → number_after (size - i) x ≡ all → x ≡ all
number_all size i x all past is = sym (ap (λ n. number_after n x) (no_more size i past)) ∙ is
