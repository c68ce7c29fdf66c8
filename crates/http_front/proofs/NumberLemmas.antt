-- Numbers in decimal, as the fields of a head and a query write them.
use Rattle.std.proofs.Common.{◌≡◌, ℕ, ◌+◌, ◌-◌, ◌*◌, ◌^◌, ◌<◌, ◌≤◌, ◌&&◌, nat_lt, nat_le, if◌then◌else◌, Bool, true, false, Some, None, List, length, get_or, decimal, refl, sym, ap, subst, ◌∙◌, option_map, ℤ, pos, ◌≤ℤ◌, w64, to_z, arith, lit≤, lit<, add-one}
use Rattle.std.proofs.Math.Nat.{pow-suc, pow-le-pow_right}
use Rattle.std.specs.List.{list_all}
use Rattle.std.specs.Char.{is_ascii_digit, digit_value}
use Rattle.std.specs.Int.{IsInRange}
use Rattle.std.specs.Str.Parse.{digits_value}
use Rattle.std.proofs.lemmas.Bool.{and_from, and_parts, le-leb}
use Rattle.std.proofs.lemmas.Bool.Decides.{nat_tests}
use Rattle.std.proofs.lemmas.Fmt.{decimal_is_IsNumeral, decimal_nonempty, digits_decimal, length-decimal-le}
use Rattle.std.proofs.lemmas.Int.{ints, to_z_pos}
use Rattle.std.proofs.lemmas.Str.{digit_value_digit}
use Rattle.std.proofs.lemmas.Str.Parse.{IsDigitsTest, IsNumeralModel, digits_value_short, numerals_by_value}
use Rattle.std.proofs.lemmas.List.Sums.{AllPass-from_list_all}
use Rattle.http_front.specs.Query.{day_count}
use Rattle.http_front.specs.RequestHead.{number_in}

-- one digit more
pub more_digits : (n d i : ℕ) → n < 10 ^ i → d < 10 → n * 10 + d < 10 ^ (i + 1)
more_digits n d i below digit = rw (add-one, pow-suc 10 i) (omega arith)

-- nineteen digits fit
pub nineteen_fit : (m i : ℕ) → m < 10 ^ (i + 1) → i < 19 → m < 2 ^ 64
nineteen_fit m i below few =
    let exponent : i + 1 ≤ 19 = omega arith in
    let most : 10 ^ (i + 1) ≤ 10 ^ 19 = pow-le-pow_right (lit< tt) exponent in
    let fits : 10 ^ 19 ≤ 2 ^ 64 = lit≤ tt in
    omega (arith, most, fits)

pub digit_in_range : (c : ℕ) → is_ascii_digit c ≡ true → IsInRange 48 57 c
digit_in_range c h = grind (arith, nat_tests)

-- the value of a digit of the text
pub digit_at : (text : List ℕ) (i : ℕ) → list_all is_ascii_digit text ≡ true → i < length text
    → (get_or text i 0 - 48 ≡ digit_value (get_or text i 0)) × (get_or text i 0 - 48 < 10)
digit_at text i all inside =
    let c = get_or text i 0 in
    let range : IsInRange 48 57 c = digit_in_range c (AllPass-from_list_all is_ascii_digit text all i 0 inside) in
    let value = digit_value_digit c range in
    (omega (arith, value), omega (arith, range))

-- ---- what digits write

range_is_digit : (c : ℕ) → IsInRange 48 57 c → is_ascii_digit c ≡ true
range_is_digit c h = grind (arith, nat_tests, h)

are_digits_told : IsDigitsTest (λ ds. list_all is_ascii_digit ds ≡ true)
are_digits_told = record {
  empty = refl;
  parts = λ c cs p. let both = and_parts _ _ p in (digit_in_range c both.0, both.1);
  more = λ c cs k p. and_from _ _ (range_is_digit c k) p;
}

pub own : IsNumeralModel (λ ds. list_all is_ascii_digit ds ≡ true) (digits_value 10)
own = numerals_by_value _ are_digits_told

-- a number's text has digits alone
pub decimal_digits : (n : ℕ) → n < 2 ^ 64 → list_all is_ascii_digit (decimal n) ≡ true
decimal_digits n fits = digits_decimal own n fits

-- a number that at most 18 digits write
pub short_number : (text : List ℕ) (n : ℕ) → length text ≤ 18 → Some n ≡ number_in text → n < 10 ^ 18
short_number text n short is = by (nat_lt 0 (length text)) (nat_le (length text) 19) (list_all is_ascii_digit text) refl is
  where
    by : (some few digits : Bool) → list_all is_ascii_digit text ≡ digits → Some n ≡ (if some && few && digits then Some (digits_value 10 text) else None)
        → n < 10 ^ 18
    by true true true are e =
        let same : n ≡ digits_value 10 text = cc in
        subst (λ m. m < 10 ^ 18) (sym same) (digits_value_short own text 18 are short)
    by true true false are e = absurd (cc)
    by true false digits are e = absurd (cc)
    by false few digits are e = absurd (cc)

-- ---- as a signed number

pub half_fits : (n : ℕ) → n < 10 ^ 18 → n < 2 ^ 63
half_fits n below = let most : 10 ^ 18 ≤ 2 ^ 63 = lit≤ tt in omega (arith, below, most)

pub signed_count : (text : List ℕ) (n : ℕ) → length text ≤ 18 → Some n ≡ number_in text → Some (to_z w64 n) ≡ option_map pos (day_count text)
signed_count text n short is =
    ap Some (to_z_pos w64 n (half_fits n (short_number text n short is)))
    ∙ ap (option_map pos) (is ∙ sym (ap (λ (b : Bool). if b then number_in text else None) (le-leb _ _ short)))

pub signed_bounds : (n : ℕ) → n < 10 ^ 18 → (pos 0 ≤ℤ to_z w64 n) × (to_z w64 n ≤ℤ pos 999999999999999999)
signed_bounds n below =
    subst (λ (z : ℤ). (pos 0 ≤ℤ z) × (z ≤ℤ pos 999999999999999999)) (sym (to_z_pos w64 n (half_fits n below))) (omega (arith, ints), omega (arith, ints, below))

-- ---- what is written

-- a number's text is read as the number
pub number_written : (n : ℕ) → n < 10 ^ 19 → n < 2 ^ 64 → number_in (decimal n) ≡ Some n
number_written n small fits =
    let some : nat_lt 0 (length (decimal n)) ≡ true = lt_told (decimal_nonempty n fits) in
    let few : nat_le (length (decimal n)) 19 ≡ true = le-leb _ _ (length-decimal-le 19 n (lit< tt) small fits) in
    rw (some, few, decimal_digits n fits) (ap Some (decimal_is_IsNumeral n fits).1)
  where
    lt_told : {a b : ℕ} → a < b → nat_lt a b ≡ true
    lt_told less = grind (arith, nat_tests)
