-- Lower-case hexadecimal text and the bytes that it stands for. The key lemmas are decode_pairs-lower, encode_lower-bytes_of
-- and IsOf-encode_lower.
use Rattle.std.proofs.Common.{◌≡◌, ℕ, zero, suc, ◌+◌, ◌-◌, ◌*◌, ◌/◌, ◌%◌, ◌<◌, ◌==◌, inl, inr, Bool, true, ◌&&◌, nat_le, nat_lt, if◌then◌else◌, List, [], ◌∷◌, length, slice_index, Some, Ok, refl, ap, ◌∙◌, arith, All, IsUtf8}
use Rattle.std.proofs.lemmas.Bool.{cases_lt, and_parts, eqb-true}
use Rattle.std.proofs.lemmas.Bool.Decides.{nat_tests}
use Rattle.std.proofs.lemmas.List.Elements.{All-head, All-tail, All-nil, All-cons, All-from_get_or, All-get_or}
use Rattle.std.proofs.lemmas.List.{get_or_past}
use Rattle.std.specs.List.{AllPass}
use Rattle.std.specs.Str.{IsAscii}
use Rattle.std.proofs.lemmas.Str.{IsUtf8-from_ascii}
use Rattle.hex.specs.Hex.{decode_pairs, decode_of, decode_sized, encode_lower, encode_with, hex_digit_value, lower_digits, pair_value, IsBytes}
use Rattle.hex.proofs.Pairs.{decode_pairs-ok_pair, cons_byte}
use Rattle.hex.proofs.HexLemmas.{decode_of-even, decode_sized-twice, length-encode_with, IsAscii-encode_with}
use Rattle.ids.specs.Digits.{is_lower_digit, digits_form}
use Rattle.ids.specs.Form.{IsOf}

-- ---- one digit

-- the value of a digit, and the digit of a value
abbrev pub value_of : ℕ → ℕ
value_of c = if nat_le c 57 then c - 48 else c - 87

abbrev pub digit_of : ℕ → ℕ
digit_of d = if nat_lt d 10 then 48 + d else 87 + d

value_of-small : (c : ℕ) → is_lower_digit c ≡ true → value_of c < 16
value_of-small c h = grind (arith, nat_tests)

hex_digit_value-lower : (c : ℕ) → is_lower_digit c ≡ true → hex_digit_value c ≡ Some (value_of c)
hex_digit_value-lower c h = grind (arith, nat_tests)

digit_of-value_of : (c : ℕ) → is_lower_digit c ≡ true → digit_of (value_of c) ≡ c
digit_of-value_of c h = grind (arith, nat_tests)

is_lower_digit-digit_of : (d : ℕ) → d < 16 → is_lower_digit (digit_of d) ≡ true
is_lower_digit-digit_of d h = grind (arith, nat_tests)

-- the test of the first n places of the table
abbrev is_table : ℕ → Bool
is_table zero = true
is_table (suc n) = (slice_index lower_digits n == digit_of n) && is_table n

is_table-at : (n d : ℕ) → is_table n ≡ true → d < n → slice_index lower_digits d ≡ digit_of d
is_table-at zero d h lt = absurd (omega arith)
is_table-at (suc n) d h lt =
    let parts = and_parts (slice_index lower_digits n == digit_of n) (is_table n) h in
    elim (cases_lt d n) [
      | inl below ↦ is_table-at n d parts.1 below
      | inr top ↦
          let e : d ≡ n = omega arith in
          rw e (eqb-true _ _ parts.0)
    ]

table-digit_of : (d : ℕ) → d < 16 → slice_index lower_digits d ≡ digit_of d
table-digit_of d h = is_table-at 16 d refl h

table-value_of : (c : ℕ) → is_lower_digit c ≡ true → slice_index lower_digits (value_of c) ≡ c
table-value_of c h = table-digit_of (value_of c) (value_of-small c h) ∙ digit_of-value_of c h

-- ---- texts of digits

-- the bytes of pairs of digits
pub bytes_of : List ℕ → List ℕ
bytes_of [] = []
bytes_of (a ∷ []) = []
bytes_of (a ∷ b ∷ rest) = (value_of a * 16 + value_of b) ∷ bytes_of rest

abbrev holds : ℕ → Type 0
holds c = is_lower_digit c ≡ true

pub length-bytes_of : (s : List ℕ) → length s % 2 ≡ 0 → length s ≡ 2 * length (bytes_of s)
unfolding bytes_of
length-bytes_of [] even = refl
length-bytes_of (a ∷ []) even = absurd (omega arith)
length-bytes_of (a ∷ b ∷ rest) even = omega (arith, length-bytes_of rest (omega arith))

pub bytes_of-bytes : (s : List ℕ) → AllPass is_lower_digit s → All (λ byte. byte < 256) (bytes_of s)
unfolding bytes_of
bytes_of-bytes [] h = All-nil (λ byte. byte < 256)
bytes_of-bytes (a ∷ []) h = All-nil (λ byte. byte < 256)
bytes_of-bytes (a ∷ b ∷ rest) h =
    let tail = All-tail holds a (b ∷ rest) h in
    let high = value_of-small a (All-head holds a (b ∷ rest) h) in
    let low = value_of-small b (All-head holds b rest tail) in
    let small : value_of a * 16 + value_of b < 256 = omega (arith, high, low) in
    All-cons (λ byte. byte < 256) (value_of a * 16 + value_of b) (bytes_of rest) small (bytes_of-bytes rest (All-tail holds b rest tail))

pub decode_pairs-lower : (i : ℕ) (s : List ℕ) → length s % 2 ≡ 0 → AllPass is_lower_digit s → decode_pairs i s ≡ Ok (bytes_of s)
unfolding bytes_of decode_pairs
decode_pairs-lower i [] even h = refl
decode_pairs-lower i (a ∷ []) even h = absurd (omega arith)
decode_pairs-lower i (a ∷ b ∷ rest) even h =
    let tail = All-tail holds a (b ∷ rest) h in
    let first = hex_digit_value-lower a (All-head holds a (b ∷ rest) h) in
    let second = hex_digit_value-lower b (All-head holds b rest tail) in
    let pair : pair_value a b i ≡ Ok (value_of a * 16 + value_of b) = rw (first, second) refl in
    let more = decode_pairs-lower (i + 2) rest (omega arith) (All-tail holds b rest tail) in
    decode_pairs-ok_pair i a b _ rest pair ∙ ap (cons_byte (value_of a * 16 + value_of b)) more

pub encode_lower-bytes_of : (s : List ℕ) → length s % 2 ≡ 0 → AllPass is_lower_digit s → encode_lower (bytes_of s) ≡ s
unfolding bytes_of encode_with
encode_lower-bytes_of [] even h = refl
encode_lower-bytes_of (a ∷ []) even h = absurd (omega arith)
encode_lower-bytes_of (a ∷ b ∷ rest) even h =
    let tail = All-tail holds a (b ∷ rest) h in
    let first = All-head holds a (b ∷ rest) h in
    let second = All-head holds b rest tail in
    let low = value_of-small b second in
    let high : (value_of a * 16 + value_of b) / 16 ≡ value_of a = omega arith in
    let rem : (value_of a * 16 + value_of b) % 16 ≡ value_of b = omega arith in
    let more = encode_lower-bytes_of rest (omega arith) (All-tail holds b rest tail) in
    rw (high, rem, table-value_of a first, table-value_of b second, more) refl

-- a text of the form, digit by digit
pub AllPass-digits : (text : List ℕ) → IsOf digits_form text → AllPass is_lower_digit text
AllPass-digits text is = All-from_get_or holds text 0 (λ k h. is.each k (omega (arith, is.whole)))

pub decode_sized-digits : (text : List ℕ) → IsOf digits_form text → decode_sized text 20 ≡ Ok (bytes_of text)
decode_sized-digits text is =
    let size : length text ≡ 40 = is.whole in
    let even : length text % 2 ≡ 0 = omega arith in
    decode_sized-twice text 20 size ∙ decode_of-even text even ∙ decode_pairs-lower 0 text even (AllPass-digits text is)

pub decode_of-digits : (text : List ℕ) → IsOf digits_form text → decode_of text ≡ Ok (bytes_of text)
decode_of-digits text is =
    let size : length text ≡ 40 = is.whole in
    let even : length text % 2 ≡ 0 = omega arith in
    decode_of-even text even ∙ decode_pairs-lower 0 text even (AllPass-digits text is)

pub encode_lower-digits : (text : List ℕ) → IsOf digits_form text → encode_lower (bytes_of text) ≡ text
encode_lower-digits text is =
    let size : length text ≡ 40 = is.whole in
    encode_lower-bytes_of text (omega arith) (AllPass-digits text is)

-- ---- the digits of bytes

pub AllPass-encode_lower : (xs : List ℕ) → All (λ b. b < 256) xs → AllPass is_lower_digit (encode_lower xs)
unfolding encode_with
AllPass-encode_lower [] h = All-nil holds
AllPass-encode_lower (b ∷ rest) h =
    let small : b < 256 = All-head (λ (x : ℕ). x < 256) b rest h in
    let high : b / 16 < 16 = omega arith in
    let low : b % 16 < 16 = omega arith in
    let more = AllPass-encode_lower rest (All-tail (λ (x : ℕ). x < 256) b rest h) in
    let first : holds (slice_index lower_digits (b / 16)) = rw (table-digit_of (b / 16) high) (is_lower_digit-digit_of (b / 16) high) in
    let second : holds (slice_index lower_digits (b % 16)) = rw (table-digit_of (b % 16) low) (is_lower_digit-digit_of (b % 16) low) in
    All-cons holds (slice_index lower_digits (b / 16)) (slice_index lower_digits (b % 16) ∷ encode_lower rest) first
    (All-cons holds (slice_index lower_digits (b % 16)) (encode_lower rest) second more)

pub IsOf-encode_lower : (xs : List ℕ) → length xs ≡ 20 → All (λ b. b < 256) xs → IsOf digits_form (encode_lower xs)
IsOf-encode_lower xs size small =
    let long : length (encode_lower xs) ≡ 40 = omega (arith, length-encode_with lower_digits xs, size) in
    record {
      whole = long;
      each = λ k h. All-get_or holds (encode_lower xs) k 0 (omega arith) (AllPass-encode_lower xs small);
    }

-- the table is ASCII
pub IsAscii-lower_digits : IsAscii lower_digits
IsAscii-lower_digits k = elim (cases_lt k 16) [
  | inl below ↦ rw (table-digit_of k below) (grind (arith, nat_tests))
  | inr above ↦ rw (get_or_past lower_digits k 0 above) (omega arith)
]

-- digits are a text
pub IsUtf8-encode_lower : (xs : List ℕ) → IsUtf8 (encode_lower xs)
IsUtf8-encode_lower xs = IsUtf8-from_ascii (encode_lower xs) (IsAscii-encode_with lower_digits xs IsAscii-lower_digits)

-- bytes, in the other words
pub IsBytes-from_All : (xs : List ℕ) → All (λ b. b < 256) xs → IsBytes xs
IsBytes-from_All xs small k = elim (cases_lt k (length xs)) [
  | inl below ↦ All-get_or (λ (b : ℕ). b < 256) xs k 0 below small
  | inr above ↦ rw (get_or_past xs k 0 above) (omega arith)
]
