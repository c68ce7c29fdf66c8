-- The lower-case hyphenated form and the bytes that it stands for. The key lemmas are parsed-library, hyphenated-library,
-- IsOf-hyphenated and IsUtf8-hyphenated.
use Rattle.std.proofs.Common.{◌≡◌, ℕ, ◌+◌, ◌*◌, ◌/◌, ◌%◌, ◌<◌, ◌==◌, inl, inr, Bool, true, false, cond, if◌then◌else◌, List, length, get_or, slice_index, Some, refl, sym, ap, ◌∙◌, arith, All, IsUtf8}
use Rattle.std.proofs.lemmas.Bool.{eqb-true, cases_eq, cases_lt}
use Rattle.std.proofs.lemmas.Bool.Decides.{nat_tests}
use Rattle.std.proofs.lemmas.List.{get_or_default, get_or_past}
use Rattle.std.proofs.lemmas.List.Elements.{All-from_get_or}
use Rattle.std.proofs.lemmas.Str.{IsUtf8-from_ascii}
use Rattle.std.specs.Str.{IsAscii}
use Rattle.uuid.specs.Text.{by_index, byte_of_digits, digit_place, digits_of, has_hyphens, hex_digit, hyphen_place, hyphenated_text, is_hex_digit, is_hyphen_place, lower, nibble, parsed, parsed_hyphenated, value_of}
use Rattle.uuid.proofs.TextLemmas.{by_index_at, by_index_length, by_index_same, hyphens_pass, nibble_small, simple_some}
use Rattle.ids.specs.Digits.{is_lower_digit}
use Rattle.ids.specs.Form.{IsOf}
use Rattle.ids.specs.LibraryId.{library_form}

-- ---- one digit

is_hex_digit-lower : (c : ℕ) → is_lower_digit c ≡ true → is_hex_digit c ≡ true
is_hex_digit-lower c h = grind (arith, nat_tests)

value_of-small : (c : ℕ) → is_lower_digit c ≡ true → value_of c < 16
value_of-small c h = grind (arith, nat_tests)

hex_digit-value_of : (c : ℕ) → is_lower_digit c ≡ true → hex_digit lower (value_of c) ≡ c
hex_digit-value_of c h = grind (arith, nat_tests)

is_lower_digit-hex_digit : (d : ℕ) → d < 16 → is_lower_digit (hex_digit lower d) ≡ true
is_lower_digit-hex_digit d h = grind (arith, nat_tests)

-- ---- places of digits

place_of_digit : (j : ℕ) → j < 32 → (is_hyphen_place (hyphen_place j) ≡ false) × (hyphen_place j < 36)
place_of_digit j h = (grind (arith, nat_tests), grind (arith, nat_tests))

digit_at_place : (k : ℕ) → k < 36 → is_hyphen_place k ≡ false → (digit_place k < 32) × (hyphen_place (digit_place k) ≡ k)
digit_at_place k h e = (grind (arith, nat_tests), grind (arith, nat_tests))

-- ---- a text of the form

hyphen_there : (text : List ℕ) (k : ℕ) → IsOf library_form text → k < 36 → is_hyphen_place k ≡ true → (slice_index text k == 45) ≡ true
hyphen_there text k is h e = let there = is.each k h in rw e at there

digit_there : (text : List ℕ) (k : ℕ) → IsOf library_form text → k < 36 → is_hyphen_place k ≡ false → is_lower_digit (slice_index text k) ≡ true
digit_there text k is h e = let there = is.each k h in rw e at there

-- the bytes of a text of the form
pub bytes_of : List ℕ → List ℕ
bytes_of text = by_index 16 (byte_of_digits (digits_of text))

digits_of-at : (text : List ℕ) (j : ℕ) → j < 32 → slice_index (digits_of text) j ≡ slice_index text (hyphen_place j)
digits_of-at text j h = by_index_at 32 (λ i. slice_index text (hyphen_place i)) j 0 h

lower_at : (text : List ℕ) (j : ℕ) → IsOf library_form text → j < 32 → is_lower_digit (slice_index (digits_of text) j) ≡ true
lower_at text j is h =
    let p = place_of_digit j h in
    rw (digits_of-at text j h) (digit_there text (hyphen_place j) is p.1 p.0)

pub parsed-library : (text : List ℕ) → IsOf library_form text → Some (bytes_of text) ≡ parsed text
unfolding bytes_of
parsed-library text is =
    let size : length text ≡ 36 = is.whole in
    let hyphens : has_hyphens text ≡ true =
    rw (hyphen_there text 8 is (omega arith) refl, hyphen_there text 13 is (omega arith) refl, hyphen_there text 18 is (omega arith) refl, hyphen_there text 23 is (omega arith) refl) refl in
    let simple = simple_some (digits_of text) (bytes_of text) (by_index_length 32 _) (by_index_length 16 _)
    (λ k h. is_hex_digit-lower (slice_index (digits_of text) k) (lower_at text k is h)) (λ i d h. by_index_at 16 (byte_of_digits (digits_of text)) i d h) in
    let whole : parsed text ≡ parsed_hyphenated text = rw size refl in
    simple ∙ hyphens_pass text size hyphens ∙ sym whole

-- they are sixteen bytes
pub length-bytes_of : (text : List ℕ) → length (bytes_of text) ≡ 16
unfolding bytes_of
length-bytes_of text = by_index_length 16 _

pub bytes_of-bytes : (text : List ℕ) → IsOf library_form text → All (λ byte. byte < 256) (bytes_of text)
unfolding bytes_of
bytes_of-bytes text is = All-from_get_or (λ byte. byte < 256) (bytes_of text) 0 (λ i inside.
    let hex : List ℕ = digits_of text in
    let below : i < 16 = omega (arith, inside, by_index_length 16 (byte_of_digits hex)) in
    let byte : slice_index (bytes_of text) i ≡ value_of (slice_index hex (2 * i)) * 16 + value_of (slice_index hex (2 * i + 1)) =
    by_index_at 16 (byte_of_digits hex) i 0 below in
    let high : value_of (slice_index hex (2 * i)) < 16 = value_of-small (slice_index hex (2 * i)) (lower_at text (2 * i) is (omega arith)) in
    let low : value_of (slice_index hex (2 * i + 1)) < 16 = value_of-small (slice_index hex (2 * i + 1)) (lower_at text (2 * i + 1) is (omega arith)) in
    omega (arith, byte, high, low))

-- the half of a byte at a place is the value of the digit there
nibble-bytes_of : (text : List ℕ) (j : ℕ) → IsOf library_form text → j < 32 → nibble (bytes_of text) j ≡ value_of (slice_index (digits_of text) j)
unfolding bytes_of
nibble-bytes_of text j is h =
    let hex : List ℕ = digits_of text in
    let i : ℕ = j / 2 in
    let byte : slice_index (bytes_of text) (j / 2) ≡ value_of (slice_index hex (2 * (j / 2))) * 16 + value_of (slice_index hex (2 * (j / 2) + 1)) =
    by_index_at 16 (byte_of_digits hex) (j / 2) 0 (omega arith) in
    let high : value_of (slice_index hex (2 * (j / 2))) < 16 = value_of-small (slice_index hex (2 * (j / 2))) (lower_at text (2 * (j / 2)) is (omega arith)) in
    let low : value_of (slice_index hex (2 * (j / 2) + 1)) < 16 = value_of-small (slice_index hex (2 * (j / 2) + 1)) (lower_at text (2 * (j / 2) + 1) is (omega arith)) in
    elim (cases_eq (j % 2) 0) [
      | inl even ↦
          let e : 2 * (j / 2) ≡ j = omega arith in
          let half : slice_index (bytes_of text) (j / 2) / 16 % 16 ≡ value_of (slice_index hex (2 * (j / 2))) = omega arith in
          rw even (half ∙ ap (λ (n : ℕ). value_of (slice_index hex n)) e)
      | inr odd ↦
          let one : j % 2 ≡ 1 = omega arith in
          let e : 2 * (j / 2) + 1 ≡ j = omega arith in
          let half : slice_index (bytes_of text) (j / 2) % 16 ≡ value_of (slice_index hex (2 * (j / 2) + 1)) = omega arith in
          rw one (half ∙ ap (λ (n : ℕ). value_of (slice_index hex n)) e)
    ]

character_at : (text : List ℕ) (k : ℕ) (b : Bool) → IsOf library_form text → k < 36 → is_hyphen_place k ≡ b
    → slice_index text k ≡ (if b then 45 else hex_digit lower (nibble (bytes_of text) (digit_place k)))
character_at text k true is h e = eqb-true _ _ (hyphen_there text k is h e)
character_at text k false is h e =
    let p = digit_at_place k h e in
    let there : slice_index (digits_of text) (digit_place k) ≡ slice_index text k = digits_of-at text (digit_place k) p.0 ∙ ap (slice_index text) p.1 in
    rw (nibble-bytes_of text (digit_place k) is p.0, there) (sym (hex_digit-value_of _ (digit_there text k is h e)))

pub hyphenated-library : (text : List ℕ) → IsOf library_form text → text ≡ hyphenated_text lower (bytes_of text)
hyphenated-library text is =
    let size : length text ≡ 36 = is.whole in
    by_index_same text 36 _ size (λ k d h. get_or_default text k d 0 (omega arith) ∙ character_at text k (is_hyphen_place k) is h refl)

-- ---- the text of bytes

character_good : (xs : List ℕ) (k : ℕ) (b : Bool) → is_hyphen_place k ≡ b
    → (if b then (if b then 45 else hex_digit lower (nibble xs (digit_place k))) == 45 else is_lower_digit (if b then 45 else hex_digit lower (nibble xs (digit_place k)))) ≡ true
character_good xs k true e = refl
character_good xs k false e = is_lower_digit-hex_digit _ (nibble_small xs (digit_place k))

pub IsOf-hyphenated : (xs : List ℕ) → IsOf library_form (hyphenated_text lower xs)
IsOf-hyphenated xs = record {
  whole = by_index_length 36 _;
  each = λ k h. rw (by_index_at 36 (λ j. if is_hyphen_place j then 45 else hex_digit lower (nibble xs (digit_place j))) k 0 h) (character_good xs k (is_hyphen_place k) refl);
}

-- what may stand in the text is ASCII, so it is a text
small_digit : (c : ℕ) → is_lower_digit c ≡ true → c < 128
small_digit c is = grind (arith, nat_tests)

small_character : (c : ℕ) (b : Bool) → cond b (c == 45) (is_lower_digit c) ≡ true → c < 128
small_character c true is = let same : c ≡ 45 = eqb-true c 45 is in omega arith
small_character c false is = small_digit c is

library_ascii : (text : List ℕ) → IsOf library_form text → IsAscii text
library_ascii text is k = elim (cases_lt k 36) [
  | inl below ↦ small_character (get_or text k 0) (is_hyphen_place k) (is.each k below)
  | inr above ↦ let whole : length text ≡ 36 = is.whole in rw (get_or_past text k 0 (omega (arith, whole))) (omega arith)
]

pub IsUtf8-hyphenated : (xs : List ℕ) → IsUtf8 (hyphenated_text lower xs)
IsUtf8-hyphenated xs = IsUtf8-from_ascii (hyphenated_text lower xs) (library_ascii (hyphenated_text lower xs) (IsOf-hyphenated xs))

-- ---- a text of the form that goes on from any place

-- a character that is allowed at a place
abbrev pub filler : ℕ → ℕ
filler k = if is_hyphen_place k then 45 else 48

filler_good : (b : Bool) → (if b then (if b then 45 else 48) == 45 else is_lower_digit (if b then 45 else 48)) ≡ true
filler_good true = refl
filler_good false = refl

pub filler-allowed : (k : ℕ) → (if is_hyphen_place k then filler k == 45 else is_lower_digit (filler k)) ≡ true
filler-allowed k = filler_good (is_hyphen_place k)
