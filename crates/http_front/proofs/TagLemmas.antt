-- The text of a tag, read and written: numbers in decimal, with a hyphen between them, in quotes. One text is that of one tag:
-- tag_once.
use Rattle.std.proofs.Common.{◌≡◌, ◌≢◌, ℕ, zero, suc, ◌+◌, ◌^◌, ◌<◌, ◌==◌, true, false, List, [], ◌∷◌, ◌++◌, length, get_or, take, drop, refl, sym, ap, ap₂, subst, ◌∙◌, arith, length-append, Option, None, Some, MatchOption, IsUtf8, inl, inr, Bor, decimal}
use Rattle.std.specs.List.{list_all, position_or_len}
use Rattle.std.specs.Char.{is_ascii_digit}
use Rattle.std.specs.Str.Parse.{IsNumeral, digits_value, without_leading_plus}
use Rattle.std.proofs.lemmas.Bool.{and_parts}
use Rattle.std.proofs.lemmas.Bool.Decides.{leb_tells}
use Rattle.std.proofs.lemmas.Fmt.{decimal_injective, decimal_is_IsNumeral, decimal-digits_value, decimal_digit, first_decimal, IsAscii-decimal}
use Rattle.std.proofs.lemmas.List.{append_assoc, take_at, drop_at, get_or_at, get_or_append_left, drop-drop, take-append-drop, drop_more}
use Rattle.std.proofs.lemmas.List.Sums.{AllPass-from_list_all, position_or_len_is}
use Rattle.std.proofs.lemmas.Str.{IsUtf8-from_ascii}
use Rattle.std.proofs.lemmas.Str.Parse.{without_leading_plus_none}
use Rattle.library_state.specs.declared.tag.Tag.{Tag}
use Rattle.http_front.specs.EntityTag.{quoted, tag_text}
use Rattle.http_front.specs.Fields.{Found, once}
use Rattle.http_front.specs.NextHead.{IsTag, IsTagIn}
use Rattle.http_front.proofs.ElementLemmas.{test_fails}
use Rattle.http_front.proofs.NumberLemmas.{decimal_digits, digit_in_range, own}

-- ---- numbers

-- a number's text begins with no zero but its own
pub no_leading_zero : (n : ℕ) → n < 2 ^ 64 → get_or (decimal n) 0 0 ≡ 48 → 1 < length (decimal n) → ⊥
no_leading_zero zero fits first long =
    omega (arith, ap length (decimal_digit 0 (omega arith)))
no_leading_zero (suc n) fits first long =
    omega (arith, first_decimal (suc n) (omega arith) fits)

no_plus : (text : List ℕ) → list_all is_ascii_digit text ≡ true → get_or text 0 0 ≢ 43
no_plus [] all plus = omega arith
no_plus (c ∷ cs) all plus =
    let range = digit_in_range c (and_parts _ _ all).0 in
    omega (arith, range)

-- what parses as a number is its text
pub number_read : (text : List ℕ) (v : ℕ) → list_all is_ascii_digit text ≡ true → (1 < length text → get_or text 0 0 ≢ 48)
    → IsNumeral 10 (without_leading_plus text) → digits_value 10 (without_leading_plus text) < 2 ^ 64
    → v ≡ digits_value 10 (without_leading_plus text) → text ≡ decimal v
number_read text v all zero_alone numeral below told =
    let same : without_leading_plus text ≡ text = without_leading_plus_none text (no_plus text all) in
    let some : 0 < length text = rw same at numeral.0 in
    let fits : digits_value 10 text < 2 ^ 64 = rw same at below in
    let value : v ≡ digits_value 10 text = told ∙ ap (digits_value 10) same in
    let alone : get_or text 0 0 ≡ 48 → length text ≡ 1 = λ first. one_byte text some (λ long. zero_alone long first) in
    sym (ap decimal value ∙ decimal-digits_value own text all some alone fits)
  where
    one_byte : (text : List ℕ) → 0 < length text → (1 < length text → ⊥) → length text ≡ 1
    one_byte text some not_long = elim (leb_tells (length text) 1) [
      | inl short ↦ omega (arith, short.1)
      | inr long ↦ absurd (not_long long.1)
    ]

-- a number's text parses
pub number_parses : (text : List ℕ) (n : ℕ) → list_all is_ascii_digit text ≡ true → n < 2 ^ 64 → text ≡ decimal n
    → IsNumeral 10 (without_leading_plus text) × (digits_value 10 (without_leading_plus text) < 2 ^ 64)
number_parses text n all fits same =
    let bare : without_leading_plus text ≡ decimal n = without_leading_plus_none text (no_plus text all) ∙ same in
    let numeral = decimal_is_IsNumeral n fits in
    rw bare (numeral.0, rw numeral.1 fits)

-- a number's text is UTF-8
pub decimal_is_text : (text : List ℕ) (n : ℕ) → n < 2 ^ 64 → text ≡ decimal n → IsUtf8 text
decimal_is_text text n fits same = subst IsUtf8 (sym same) (IsUtf8-from_ascii (decimal n) (IsAscii-decimal n fits))

-- ---- two numbers

-- where the first hyphen of two numbers stands
pub record CutsAt (text front back : List ℕ) (place : ℕ) : Type 0 where
  pub inside : place < length text
  pub front_is : take place text ≡ front
  pub back_is : drop (place + 1) text ≡ back

pub cut_at_hyphen : (text : List ℕ) (opening : ℕ) (back : List ℕ) (place : ℕ) → opening < 2 ^ 64
    → text ≡ decimal opening ++ 45 ∷ back → place ≡ position_or_len (λ c. c == 45) text
    → CutsAt text (decimal opening) back place
cut_at_hyphen text opening back place fits same at =
    let front = decimal opening in
    let size : length text ≡ length front + (length back + 1) =
    ap length same ∙ length-append front (45 ∷ back) ∙ one_more (length front) (length back) in
    let before : (k : ℕ) → k < length front → (get_or text k 0 == 45) ≡ false = λ k inside.
    ap (λ (t : List ℕ). get_or t k 0 == 45) same ∙ ap (λ (b : ℕ). b == 45) (get_or_append_left front (45 ∷ back) 0 k inside)
    ∙ digit_is_other (get_or front k 0) (AllPass-from_list_all is_ascii_digit front (decimal_digits opening fits) k 0 inside) in
    let here : get_or text (length front) 0 ≡ 45 = ap (λ (t : List ℕ). get_or t (length front) 0) same ∙ get_or_at front 45 back 0 (length front) refl in
    let found : place ≡ length front =
    at ∙ position_or_len_is (λ c. c == 45) text (length front) 0 (omega (arith, size)) before (λ _. ap (λ (b : ℕ). b == 45) here) in
    record {
      inside = omega (arith, size, found);
      front_is = rw (found, same) (take_at front (45 ∷ back) (length front) refl);
      back_is = rw (found, same) (drop_after front back);
    }
  where
    one_more : (a b : ℕ) → a + suc b ≡ a + (b + 1)
    one_more a b = omega arith

    digit_is_other : (c : ℕ) → is_ascii_digit c ≡ true → (c == 45) ≡ false
    digit_is_other c digit = let range = digit_in_range c digit in test_fails c 45 (λ same. omega (arith, range, same))

    drop_after : (front back : List ℕ) → drop (length front + 1) (front ++ 45 ∷ back) ≡ back
    drop_after front back =
        sym (drop-drop 1 (length front) (front ++ 45 ∷ back)) ∙ ap (drop 1) (drop_at front (45 ∷ back) (length front) refl)

-- a text is what stands before and after a hyphen
pub joined_at_hyphen : (text : List ℕ) (place : ℕ) → place < length text → get_or text place 0 ≡ 45
    → text ≡ take place text ++ 45 ∷ drop (place + 1) text
joined_at_hyphen text place inside is =
    sym (take-append-drop place text) ∙ ap (λ d. take place text ++ d) (drop_more text place 0 inside
    ∙ ap (λ b. b ∷ drop (place + 1) text) is)

-- ---- quotes

pub unquotes : (text rest : List ℕ) (r : Option (Bor (List ℕ))) → text ≡ 34 ∷ rest
    → MatchOption r ((front : List ℕ) → rest ≢ front ++ 34 ∷ []) (λ x. rest ≡ x.now ++ 34 ∷ [])
    → MatchOption r ((inner : List ℕ) → text ≡ quoted inner → ⊥) (λ x. text ≡ quoted x.now)
unquotes text rest None first none = λ inner same. none inner (tails rest (inner ++ 34 ∷ []) (sym first ∙ same))
  where
    tails : (a b : List ℕ) → 34 ∷ a ≡ 34 ∷ b → a ≡ b
    tails a b same = cc
unquotes text rest (Some x) first last = first ∙ ap (λ t. 34 ∷ t) last

-- ---- one text is that of one tag

-- what stands behind the quote at the front of a tag's text
abbrev behind_quote : Tag → List ℕ
behind_quote tag = decimal tag.opening ++ 45 ∷ (decimal tag.count ++ 34 ∷ [])

text_tail : (a b : Tag) → tag_text a ≡ tag_text b → behind_quote a ≡ behind_quote b
text_tail a b same =
    sym (grouped (decimal a.opening) (decimal a.count)) ∙ (ap (drop 1) same ∙ grouped (decimal b.opening) (decimal b.count))
  where
    grouped : (o c : List ℕ) → ((o ++ 45 ∷ []) ++ c) ++ 34 ∷ [] ≡ o ++ 45 ∷ (c ++ 34 ∷ [])
    grouped o c = append_assoc (o ++ 45 ∷ []) c (34 ∷ []) ∙ append_assoc o (45 ∷ []) (c ++ 34 ∷ [])

-- what stands in front of one more byte
without_last : (a b : List ℕ) → a ++ 34 ∷ [] ≡ b ++ 34 ∷ [] → a ≡ b
without_last a b same =
    let long = ap length same in
    let size : length a ≡ length b = omega (arith, long, length-append a (34 ∷ []), length-append b (34 ∷ [])) in
    sym (take_at a (34 ∷ []) (length a) refl) ∙ ap (take (length a)) same ∙ take_at b (34 ∷ []) (length a) (sym size)

pub tag_text_once : (a b : Tag) → IsTag a → IsTag b → tag_text a ≡ tag_text b → a ≡ b
tag_text_once a b fits also same =
    let text = behind_quote a in
    let place = position_or_len (λ c. c == 45) text in
    let one = cut_at_hyphen text a.opening (decimal a.count ++ 34 ∷ []) place fits.opening refl refl in
    let two = cut_at_hyphen text b.opening (decimal b.count ++ 34 ∷ []) place also.opening (text_tail a b same) refl in
    let opening : a.opening ≡ b.opening = decimal_injective a.opening b.opening fits.opening also.opening (sym one.front_is ∙ two.front_is) in
    let count : a.count ≡ b.count =
    decimal_injective a.count b.count fits.count also.count (without_last (decimal a.count) (decimal b.count) (sym one.back_is ∙ two.back_is)) in
    ap₂ (λ (o c : ℕ). tag_by o c) opening count
  where
    tag_by : ℕ → ℕ → Tag
    tag_by o c = record { opening = o; count = c }

-- a field tells one tag, or none
pub tag_once : (field : Found) (a b : Option Tag) → IsTagIn field a → IsTagIn field b → a ≡ b
tag_once field None None is also = refl
tag_once field None (Some tag) none is = absurd (none tag is.0 is.1)
tag_once field (Some tag) None is none = absurd (none tag is.0 is.1)
tag_once field (Some tag) (Some other) is also = ap Some (tag_text_once tag other is.0 also.0 (value_same (sym is.1 ∙ also.1)))
  where
    value_same : {x y : List ℕ} → once x ≡ once y → x ≡ y
    value_same e = cc
