-- A number is read from its decimal digits, and from no other text. The key lemmas are number_of-decimal,
-- number_text, unparsed, parsed_other and parsed_same.
use Rattle.std.proofs.Common.{◌≡◌, ◌≢◌, ℕ, ◌^◌, ◌<◌, ◌≤◌, ◌&&◌, nat_le, nat_lt, Bool, true, false, List, Option, None, Some, Result, Ok, Err, cond, decimal, not, refl, sym, ap, subst, true≢false, ◌∙◌, arith}
use Rattle.std.specs.Option.{IfSome}
use Rattle.std.specs.Str.{bytes_eq}
use Rattle.std.specs.Str.Parse.{ParsesUnsigned, digits_value}
use Rattle.std.proofs.lemmas.Bool.{and_from, le-leb}
use Rattle.std.proofs.lemmas.Bool.Decides.{nat_tests}
use Rattle.std.proofs.lemmas.Fmt.{decimal_is_IsNumeral, parse-decimal}
use Rattle.std.proofs.lemmas.Slice.Eq.{bytes_eq-Decides}
use Rattle.ids.proofs.BasicLemmas.{same_from_bytes_eq}
use Rattle.server_words.specs.Number.{number_of, number_within, within}

value_of-decimal : (n : ℕ) → n < 2 ^ 64 → digits_value 10 (decimal n) ≡ n
value_of-decimal n fits = (decimal_is_IsNumeral n fits).1

number_at : (text : List ℕ) (v : ℕ) (same fits : Bool) → same ≡ true → fits ≡ true → cond (same && fits) (Some v) None ≡ Some v
number_at text v same fits is-same is-fit = rw (is-same, is-fit) refl

-- the digits of a number are read as it
pub number_of-decimal : (n : ℕ) → n < 2 ^ 64 → number_of (decimal n) ≡ Some n
number_of-decimal n fits =
    let value = value_of-decimal n fits in
    let same : bytes_eq (decimal n) (decimal (digits_value 10 (decimal n))) ≡ true = (bytes_eq-Decides (decimal n) (decimal (digits_value 10 (decimal n)))).1 (sym (ap decimal value)) in
    let below : nat_lt (digits_value 10 (decimal n)) (2 ^ 64) ≡ true = subst (λ (m : ℕ). nat_lt m (2 ^ 64) ≡ true) (sym value) (less n (2 ^ 64) fits) in
    number_at (decimal n) (digits_value 10 (decimal n)) _ _ same below ∙ ap (λ (m : ℕ). Some m) value
  where
    less : (a b : ℕ) → a < b → nat_lt a b ≡ true
    less a b below = grind (arith, nat_tests, below)

text_at : (text : List ℕ) (v : ℕ) (same fits : Bool) → (same ≡ true → text ≡ decimal v) → (fits ≡ true → v < 2 ^ 64) → IfSome (cond (same && fits) (Some v) None) (λ n. (text ≡ decimal n) × (n < 2 ^ 64))
text_at text v true true is below = (is refl, below refl)
text_at text v true false is below = tt
text_at text v false fits is below = tt

-- what is read as a number is its digits
pub number_text : (text : List ℕ) → IfSome (number_of text) (λ n. (text ≡ decimal n) × (n < 2 ^ 64))
number_text text = text_at text (digits_value 10 text) _ _ (same_from_bytes_eq text (decimal (digits_value 10 text))) (less (digits_value 10 text) (2 ^ 64))
  where
    less : (a b : ℕ) → nat_lt a b ≡ true → a < b
    less a b is = grind (arith, nat_tests, is)

within_text : (least most : ℕ) (text : List ℕ) (o : Option ℕ) → IfSome o (λ n. (text ≡ decimal n) × (n < 2 ^ 64)) → IfSome (within least most o) (λ n. text ≡ decimal n)
within_text least most text None is = tt
within_text least most text (Some n) is = by (nat_le least n && nat_le n most)
  where
    by : (b : Bool) → IfSome (cond b (Some n) None) (λ n. text ≡ decimal n)
    by true = is.0
    by false = tt

pub within_is_text : (least most : ℕ) (text : List ℕ) → IfSome (number_within least most text) (λ n. text ≡ decimal n)
within_is_text least most text = within_text least most text (number_of text) (number_text text)

-- the digits of a number between these are read as it
pub number_within-decimal : (least most n : ℕ) → least ≤ n → n ≤ most → n < 2 ^ 64 → number_within least most (decimal n) ≡ Some n
number_within-decimal least most n above below fits =
    ap (within least most) (number_of-decimal n fits)
    ∙ ap (λ (b : Bool). cond b (Some n) None) (and_from (nat_le least n) (nat_le n most) (le-leb least n above) (le-leb n most below))

-- a text that is no number's digits is read as none
none_at : (v : ℕ) (same fits : Bool) → (same ≡ true → fits ≡ true → ⊥) → cond (same && fits) (Some v) None ≡ None
none_at v true true never = absurd (never refl refl)
none_at v true false never = refl
none_at v false fits never = refl

pub not_number : (text : List ℕ) → ((n : ℕ) → n < 2 ^ 64 → text ≢ decimal n) → number_of text ≡ None
not_number text never =
    none_at (digits_value 10 text) _ _ (λ is below. never (digits_value 10 text) (less (digits_value 10 text) (2 ^ 64) below) (same_from_bytes_eq text (decimal (digits_value 10 text)) is))
  where
    less : (a b : ℕ) → nat_lt a b ≡ true → a < b
    less a b is = grind (arith, nat_tests, is)

-- ---- what a text parses as

-- a text that parses as no number is no number's digits
pub unparsed : {E : Type 0} (text : List ℕ) (why : E) → ParsesUnsigned 64 10 text (Err why) → number_of text ≡ None
unparsed {E} text why told = not_number text (λ n fits same. no_ok n (parse-decimal 64 n text (Err why) fits fits same told))
  where
    no_ok : (n : ℕ) → ◌≡◌ {A = Result ℕ E} (Err why) (Ok n) → ⊥
    no_ok n e = cc

-- one that parses as a number, and isn't its digits, is none's
pub parsed_other : {E : Type 0} (text : List ℕ) (number : ℕ) (r : Result ℕ E) → r ≡ Ok number → ParsesUnsigned 64 10 text r → text ≢ decimal number → number_of text ≡ None
parsed_other {E} text number r is told differs =
    not_number text (λ n fits same. differs (same ∙ ap decimal (sym (the_same number n (sym is ∙ parse-decimal 64 n text r fits fits same told)))))
  where
    the_same : (a b : ℕ) → ◌≡◌ {A = Result ℕ E} (Ok a) (Ok b) → a ≡ b
    the_same a b e = cc

-- two texts are compared
pub differ_by : (a b : List ℕ) → not (bytes_eq a b) ≡ true → a ≢ b
differ_by a b is same = true≢false (sym is ∙ ap not ((bytes_eq-Decides a b).1 same))

pub same_by : (a b : List ℕ) → not (bytes_eq a b) ≡ false → a ≡ b
same_by a b is = same_from_bytes_eq a b (by (bytes_eq a b) is)
  where
    by : (c : Bool) → not c ≡ false → c ≡ true
    by true e = refl
    by false e = sym e

-- and else it is that number
pub parsed_same : (text : List ℕ) (number : ℕ) → number < 2 ^ 64 → text ≡ decimal number → number_of text ≡ Some number
parsed_same text number fits same = ap number_of same ∙ number_of-decimal number fits
