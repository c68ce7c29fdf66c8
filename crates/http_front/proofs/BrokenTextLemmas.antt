-- A byte that can be of no character spoils a text, whatever follows. The lemma to cite is broken_never.
use Rattle.std.proofs.Common.{◌≡◌, ◌⊎◌, ℕ, ◌+◌, ◌/◌, ◌%◌, ◌<◌, ◌≤◌, Bool, true, false, List, [], ◌∷◌, ◌++◌, length, take, drop, refl, sym, ap, subst, ◌∙◌, arith, inl, inr, nat_lt, length-append, length-drop, None, IsSome, IsUtf8}
use Rattle.std.specs.Char.{IsScalar}
use Rattle.std.specs.Int.{is_in_range}
use Rattle.std.specs.Str.{IsValidUpTo}
use Rattle.std.specs.Str.Lossy.{utf8_error_len, second_byte_min, second_byte_max}
use Rattle.std.proofs.lemmas.Bool.{and_parts, cases_lt, ltb-true, ltb-false}
use Rattle.std.proofs.lemmas.Bool.Decides.{nat_tests}
use Rattle.std.proofs.lemmas.List.{take_at, take-append-le, drop-append-le}
use Rattle.std.proofs.lemmas.Str.{IsUtf8-append, IsUtf8-encode, IsUtf8-drop, IsCharBoundary-from_take, length-encode, len_utf8_bounds}
use lib.Utf8.{encode, encodes, scalars, scalar_cases}
use Rattle.http_front.specs.TargetFront.{IsBroken}
use Rattle.http_front.proofs.MemoryLinkLemmas.{taken_by}

-- ---- the first bytes of a character are at fault in nothing

one_byte : (x : ℕ) → is_in_range 0xC2 0xF4 x ≡ true → utf8_error_len (x ∷ []) ≡ None
unfolding utf8_error_len
one_byte x lead = rw lead

two_bytes : (x y : ℕ) → is_in_range 0xC2 0xF4 x ≡ true → is_in_range (second_byte_min x) (second_byte_max x) y ≡ true
    → utf8_error_len (x ∷ y ∷ []) ≡ None
unfolding utf8_error_len
two_bytes x y lead second = rw (lead, second)

three_bytes : (x y z : ℕ) → is_in_range 0xC2 0xF4 x ≡ true → is_in_range (second_byte_min x) (second_byte_max x) y ≡ true
    → is_in_range 0x80 0xBF z ≡ true → utf8_error_len (x ∷ y ∷ z ∷ []) ≡ None
unfolding utf8_error_len
three_bytes x y z lead second third = rw (lead, second, third)

leads : (x : ℕ) → 194 ≤ x → x ≤ 244 → is_in_range 0xC2 0xF4 x ≡ true
leads x low high = grind (arith, nat_tests)

follows : (y : ℕ) → 128 ≤ y → y ≤ 191 → is_in_range 0x80 0xBF y ≡ true
follows y low high = grind (arith, nat_tests)

seconds : (x y : ℕ) → 128 ≤ y → y ≤ 191 → (x ≡ 224 → 160 ≤ y) → (x ≡ 240 → 144 ≤ y) → (x ≡ 237 → y ≤ 159) → (x ≡ 244 → y ≤ 143)
    → is_in_range (second_byte_min x) (second_byte_max x) y ≡ true
seconds x y low high e0 f0 ed f4 = grind (arith, nat_tests)

shape_two : (c : ℕ) → nat_lt c 128 ≡ false → nat_lt c 2048 ≡ true → encode c ≡ (192 + c / 64) ∷ (128 + c % 64) ∷ []
unfolding encode
shape_two c a b = rw (a, b)

shape_three : (c : ℕ) → nat_lt c 128 ≡ false → nat_lt c 2048 ≡ false → nat_lt c 65536 ≡ true
    → encode c ≡ (224 + c / 4096) ∷ (128 + (c / 64) % 64) ∷ (128 + c % 64) ∷ []
unfolding encode
shape_three c a b d = rw (a, b, d)

shape_four : (c : ℕ) → nat_lt c 128 ≡ false → nat_lt c 2048 ≡ false → nat_lt c 65536 ≡ false
    → encode c ≡ (240 + c / 262144) ∷ (128 + (c / 4096) % 64) ∷ (128 + (c / 64) % 64) ∷ (128 + c % 64) ∷ []
unfolding encode
shape_four c a b d = rw (a, b, d)

shape_one : (c : ℕ) → nat_lt c 128 ≡ true → encode c ≡ c ∷ []
unfolding encode
shape_one c a = rw a

-- ---- the same by the size of the character

in_two : (w t more : List ℕ) (c : ℕ) → 128 ≤ c → c < 2048 → w ++ t ≡ (192 + c / 64) ∷ (128 + c % 64) ∷ more
    → 0 < length w → length w < 2 → utf8_error_len w ≡ None
in_two [] t more c low high same some short = absurd (omega arith)
in_two (x ∷ []) t more c low high same some short =
    let first : x ≡ 192 + c / 64 = cc in
    one_byte x (leads x (omega (arith, first)) (omega (arith, first)))
in_two (x ∷ y ∷ w) t more c low high same some short = absurd (omega arith)

lead_three : (x c : ℕ) → 2048 ≤ c → c < 65536 → x ≡ 224 + c / 4096 → (194 ≤ x) × (x ≤ 239)
lead_three x c low high first = (omega (arith, first), omega (arith, first))

second_three : (x y c : ℕ) → 2048 ≤ c → c < 65536 → (c < 55296) ⊎ ((57344 ≤ c) × (c < 1114112)) → x ≡ 224 + c / 4096
    → y ≡ 128 + (c / 64) % 64 → is_in_range (second_byte_min x) (second_byte_max x) y ≡ true
second_three x y c low high scalar first second =
    let lead = lead_three x c low high first in
    seconds x y (omega (arith, second)) (omega (arith, second)) (λ e0. omega (arith, e0, first, second)) (λ f0. absurd (omega (arith, f0, lead)))
    (λ ed. not_surrogate scalar ed) (λ f4. absurd (omega (arith, f4, lead)))
  where
    not_surrogate : (c < 55296) ⊎ ((57344 ≤ c) × (c < 1114112)) → x ≡ 237 → y ≤ 159
    not_surrogate (inl below) ed = omega (arith, ed, first, second, below)
    not_surrogate (inr above) ed = absurd (omega (arith, ed, first, above))

in_three : (w t more : List ℕ) (c : ℕ) → 2048 ≤ c → c < 65536 → (c < 55296) ⊎ ((57344 ≤ c) × (c < 1114112))
    → w ++ t ≡ (224 + c / 4096) ∷ (128 + (c / 64) % 64) ∷ (128 + c % 64) ∷ more
    → 0 < length w → length w < 3 → utf8_error_len w ≡ None
in_three [] t more c low high scalar same some short = absurd (omega arith)
in_three (x ∷ []) t more c low high scalar same some short =
    let first : x ≡ 224 + c / 4096 = cc in
    let lead = lead_three x c low high first in
    one_byte x (leads x lead.0 (omega (arith, lead)))
in_three (x ∷ y ∷ []) t more c low high scalar same some short =
    let first : x ≡ 224 + c / 4096 = cc in
    let second : y ≡ 128 + (c / 64) % 64 = cc in
    let lead = lead_three x c low high first in
    two_bytes x y (leads x lead.0 (omega (arith, lead))) (second_three x y c low high scalar first second)
in_three (x ∷ y ∷ z ∷ w) t more c low high scalar same some short = absurd (omega arith)

lead_four : (x c : ℕ) → 65536 ≤ c → c < 1114112 → x ≡ 240 + c / 262144 → (240 ≤ x) × (x ≤ 244)
lead_four x c low high first = (omega (arith, first), omega (arith, first))

second_four : (x y c : ℕ) → 65536 ≤ c → c < 1114112 → x ≡ 240 + c / 262144 → y ≡ 128 + (c / 4096) % 64
    → is_in_range (second_byte_min x) (second_byte_max x) y ≡ true
second_four x y c low high first second =
    let lead = lead_four x c low high first in
    seconds x y (omega (arith, second)) (omega (arith, second)) (λ e0. absurd (omega (arith, e0, lead))) (λ f0. omega (arith, f0, first, second))
    (λ ed. absurd (omega (arith, ed, lead))) (λ f4. omega (arith, f4, first, second))

in_four : (w t more : List ℕ) (c : ℕ) → 65536 ≤ c → c < 1114112
    → w ++ t ≡ (240 + c / 262144) ∷ (128 + (c / 4096) % 64) ∷ (128 + (c / 64) % 64) ∷ (128 + c % 64) ∷ more
    → 0 < length w → length w < 4 → utf8_error_len w ≡ None
in_four [] t more c low high same some short = absurd (omega arith)
in_four (x ∷ []) t more c low high same some short =
    let first : x ≡ 240 + c / 262144 = cc in
    let lead = lead_four x c low high first in
    one_byte x (leads x (omega (arith, lead)) lead.1)
in_four (x ∷ y ∷ []) t more c low high same some short =
    let first : x ≡ 240 + c / 262144 = cc in
    let second : y ≡ 128 + (c / 4096) % 64 = cc in
    let lead = lead_four x c low high first in
    two_bytes x y (leads x (omega (arith, lead)) lead.1) (second_four x y c low high first second)
in_four (x ∷ y ∷ z ∷ []) t more c low high same some short =
    let first : x ≡ 240 + c / 262144 = cc in
    let second : y ≡ 128 + (c / 4096) % 64 = cc in
    let third : z ≡ 128 + (c / 64) % 64 = cc in
    let lead = lead_four x c low high first in
    three_bytes x y z (leads x (omega (arith, lead)) lead.1) (second_four x y c low high first second)
    (follows z (omega (arith, third)) (omega (arith, third)))
in_four (x ∷ y ∷ z ∷ u ∷ w) t more c low high same some short = absurd (omega arith)

-- the beginning of a character
partial : (w t more : List ℕ) (c : ℕ) → IsScalar c → w ++ t ≡ encode c ++ more → 0 < length w → length w < length (encode c)
    → utf8_error_len w ≡ None
partial w t more c scalar same some short = by_size (nat_lt c 128) (nat_lt c 2048) (nat_lt c 65536) refl refl refl
  where
    below_end : 65536 ≤ c → (c < 55296) ⊎ ((57344 ≤ c) × (c < 1114112)) → c < 1114112
    below_end low (inl below) = absurd (omega arith)
    below_end low (inr above) = above.1

    by_size : (a b d : Bool) → nat_lt c 128 ≡ a → nat_lt c 2048 ≡ b → nat_lt c 65536 ≡ d → utf8_error_len w ≡ None
    by_size true b d ha hb hd =
        let size : length (encode c) ≡ 1 = ap length (shape_one c ha) in
        absurd (omega (arith, size, some, short))
    by_size false true d ha hb hd =
        let is = shape_two c ha hb in
        in_two w t more c (ltb-false c 128 ha) (ltb-true c 2048 hb) (same ∙ ap (λ e. e ++ more) is) some (subst (λ n. length w < n) (ap length is) short)
    by_size false false true ha hb hd =
        let is = shape_three c ha hb hd in
        in_three w t more c (ltb-false c 2048 hb) (ltb-true c 65536 hd) (scalar_cases c scalar) (same ∙ ap (λ e. e ++ more) is) some (subst (λ n. length w < n) (ap length is) short)
    by_size false false false ha hb hd =
        let is = shape_four c ha hb hd in
        let low : 65536 ≤ c = ltb-false c 65536 hd in
        in_four w t more c low (below_end low (scalar_cases c scalar)) (same ∙ ap (λ e. e ++ more) is) some (subst (λ n. length w < n) (ap length is) short)

-- ---- what follows cannot mend it

no_fault : (w : List ℕ) → utf8_error_len w ≡ None → IsSome (utf8_error_len w) → ⊥
no_fault w none some = absurd (cc (none, some))

-- characters that begin within what is not valid
no_chars : (s t : List ℕ) (n : ℕ) (cs : List ℕ) → scalars cs ≡ true → encodes cs ≡ drop n s ++ t → IsValidUpTo s n
    → IsSome (utf8_error_len (drop n s)) → ⊥
no_chars s t n [] all same up fault =
    let size : 0 ≡ length (drop n s) + length t = ap length same ∙ length-append (drop n s) t in
    omega (arith, size, up.short, length-drop n s)
no_chars s t n (c ∷ cs) all same up fault =
    let w = drop n s in
    let scalar = (and_parts _ _ all).0 in
    let some : 0 < length w = omega (arith, up.short, length-drop n s) in
    let size = length-encode c in
    let bounds = len_utf8_bounds c in
    elim (cases_lt (length w) (length (encode c))) [
      | inl short ↦ no_fault w (partial w t (encodes cs) c scalar (sym same) some short) fault
      | inr long ↦
          let k = length (encode c) in
          let begins : take k w ≡ encode c =
          sym (take-append-le k w t long) ∙ ap (take k) (sym same) ∙ take_at (encode c) (encodes cs) k refl in
          let whole : take (n + k) s ≡ take n s ++ encode c = taken_by s n k ∙ ap (λ f. take n s ++ f) begins in
          up.longest (n + k) (omega (arith, size, bounds)) (subst IsUtf8 (sym whole) (IsUtf8-append (take n s) (encode c) up.front (IsUtf8-encode c scalar)))
    ]

-- a byte of no character spoils a text, whatever follows
pub broken_never : (s t : List ℕ) → IsBroken s → IsUtf8 (s ++ t) → ⊥
broken_never s t broken text =
    let n = broken.valid in
    let up = broken.up_to in
    let within : n ≤ length s = omega (arith, up.short) in
    let front : take n (s ++ t) ≡ take n s = take-append-le n s t within in
    let inside : n ≤ length (s ++ t) = omega (arith, within, length-append s t) in
    let cut = IsCharBoundary-from_take (s ++ t) n text inside (subst IsUtf8 (sym front) up.front) in
    let rest = subst IsUtf8 (drop-append-le n s t within) (IsUtf8-drop (s ++ t) n text cut) in
    no_chars s t n rest.0 rest.1.0 rest.1.1 up broken.fault
