-- The bytes of stamps and numbers: none is `/` or NUL, and all are ASCII.
use Rattle.std.proofs.Common.{◌≡◌, ℕ, zero, suc, ◌+◌, ◌/◌, ◌%◌, ◌<◌, Bool, true, false, not, nat_lt, nat_le, ◌&&◌, ◌||◌, ◌==◌, cond, List, [], ◌∷◌, ◌++◌, refl, arith, IsAscii, ltb-true}
use Rattle.std.proofs.lemmas.Bool.{and_parts, and_from}
use Rattle.std.proofs.lemmas.Bool.Decides.{nat_tests}
use Rattle.std.proofs.lemmas.Str.Ascii.{IsAscii-nil, IsAscii-cons}
use Rattle.std.specs.List.{list_all}
use Rattle.tree_model.specs.Name.{is_separator}
use Rattle.conflict_names.specs.CivilTime.{digit, two_digits, four_digits, stamp, stamp_text, year_of, month_of, day_of}
use Rattle.conflict_names.specs.Naming.{numeral, numeral_in, number_text}
use Rattle.ids.proofs.BasicLemmas.{list_all-joined}

-- neither `/` nor NUL
abbrev pub is_free : ℕ → Bool
is_free b = not (is_separator b)

-- a digit or a hyphen
abbrev pub is_plain : ℕ → Bool
is_plain b = (b == 45) || (nat_le 48 b && nat_lt b 58)

plain-free : (b : ℕ) → is_plain b ≡ true → is_free b ≡ true
plain-free b h = grind (arith, nat_tests)

plain-ascii : (b : ℕ) → is_plain b ≡ true → b < 128
plain-ascii b h = grind (arith, nat_tests)

digit-plain : (n : ℕ) → is_plain (digit n) ≡ true
digit-plain n = grind (arith, nat_tests)

pub one_more : (p : ℕ → Bool) (x : ℕ) (xs : List ℕ) → p x ≡ true → list_all p xs ≡ true → list_all p (x ∷ xs) ≡ true
one_more p x xs a b = and_from _ _ a b

two-plain : (n : ℕ) → list_all is_plain (two_digits n) ≡ true
two-plain n = one_more is_plain (digit (n / 10)) (digit n ∷ []) (digit-plain (n / 10)) (one_more is_plain (digit n) [] (digit-plain n) refl)

four-plain : (n : ℕ) → list_all is_plain (four_digits n) ≡ true
four-plain n = one_more is_plain (digit (n / 1000)) (digit (n / 100) ∷ two_digits n) (digit-plain (n / 1000)) (one_more is_plain (digit (n / 100)) (two_digits n) (digit-plain (n / 100)) (two-plain n))

next-plain : (xs : List ℕ) (n : ℕ) → list_all is_plain xs ≡ true → list_all is_plain (xs ++ 45 ∷ two_digits n) ≡ true
next-plain xs n h = list_all-joined is_plain xs (45 ∷ two_digits n) h (one_more is_plain 45 (two_digits n) refl (two-plain n))

text-plain : (y mo d h mi s : ℕ) → list_all is_plain (stamp_text y mo d h mi s) ≡ true
text-plain y mo d h mi s =
    next-plain (four_digits y ++ 45 ∷ two_digits mo ++ 45 ∷ two_digits d ++ 45 ∷ two_digits h ++ 45 ∷ two_digits mi) s
    (next-plain (four_digits y ++ 45 ∷ two_digits mo ++ 45 ∷ two_digits d ++ 45 ∷ two_digits h) mi
    (next-plain (four_digits y ++ 45 ∷ two_digits mo ++ 45 ∷ two_digits d) h
    (next-plain (four_digits y ++ 45 ∷ two_digits mo) d (next-plain (four_digits y) mo (four-plain y)))))

pub stamp-plain : (seconds : ℕ) → list_all is_plain (stamp seconds) ≡ true
unfolding stamp
stamp-plain seconds =
    text-plain (year_of (seconds / 86400)) (month_of (seconds / 86400)) (day_of (seconds / 86400)) (seconds % 86400 / 3600) (seconds % 86400 % 3600 / 60) (seconds % 86400 % 60)

numeral_in-plain : (steps n : ℕ) → list_all is_plain (numeral_in steps n) ≡ true
numeral_in-plain zero n = refl
numeral_in-plain (suc steps) n = by (nat_lt n 10) (numeral_in-plain steps (n / 10))
  where
    by : (b : Bool) → list_all is_plain (numeral_in steps (n / 10)) ≡ true → list_all is_plain (cond b (digit n ∷ []) (numeral_in steps (n / 10) ++ digit n ∷ [])) ≡ true
    by true front = one_more is_plain (digit n) [] (digit-plain n) refl
    by false front = list_all-joined is_plain (numeral_in steps (n / 10)) (digit n ∷ []) front (one_more is_plain (digit n) [] (digit-plain n) refl)

pub number_text-plain : (k : ℕ) → list_all is_plain (number_text k) ≡ true
unfolding numeral
number_text-plain k = by (nat_lt k 2)
  where
    by : (b : Bool) → list_all is_plain (cond b [] (45 ∷ numeral_in (k + 1) k)) ≡ true
    by true = refl
    by false = one_more is_plain 45 (numeral_in (k + 1) k) refl (numeral_in-plain (k + 1) k)

pub all-free : (xs : List ℕ) → list_all is_plain xs ≡ true → list_all is_free xs ≡ true
all-free [] h = refl
all-free (x ∷ xs) h =
    let parts = and_parts (is_plain x) (list_all is_plain xs) h in
    one_more is_free x xs (plain-free x parts.0) (all-free xs parts.1)

pub IsAscii-from_tests : (xs : List ℕ) → list_all (λ b. nat_lt b 128) xs ≡ true → IsAscii xs
IsAscii-from_tests [] h = IsAscii-nil
IsAscii-from_tests (x ∷ xs) h =
    let parts = and_parts (nat_lt x 128) (list_all (λ b. nat_lt b 128) xs) h in
    IsAscii-cons x xs (ltb-true x 128 parts.0) (IsAscii-from_tests xs parts.1)

pub all-ascii : (xs : List ℕ) → list_all is_plain xs ≡ true → IsAscii xs
all-ascii [] h = IsAscii-nil
all-ascii (x ∷ xs) h =
    let parts = and_parts (is_plain x) (list_all is_plain xs) h in
    IsAscii-cons x xs (plain-ascii x parts.0) (all-ascii xs parts.1)
