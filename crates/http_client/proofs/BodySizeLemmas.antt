-- How long the bodies of requests are. The key lemmas are array_length, digits_more, row_more and min_more.
use Rattle.std.proofs.Common.{◌≡◌, ℕ, ◌+◌, ◌*◌, ◌<◌, ◌≤◌, ◌==◌, ◌||◌, nat_lt, min, true, false, List, [], ◌∷◌, ◌++◌, length, map, take, get_or, All, refl, sym, ap, ap₂, subst, ◌∙◌, arith, length-append, take-suc, add-one}
use Rattle.std.proofs.lemmas.List.{take_all}
use Rattle.std.specs.List.{list_all}
use Rattle.std.proofs.lemmas.Bool.{and_parts}
use Rattle.std.proofs.lemmas.Bool.Decides.{nat_tests}
use Rattle.std.proofs.lemmas.List.Elements.{All-head, All-push, All-tail}
use Rattle.std.proofs.lemmas.List.Sums.{list_all-from_AllPass}
use Rattle.hex.specs.Hex.{encode_lower, lower_digits}
use Rattle.hex.proofs.HexLemmas.{length-encode_with}
use Rattle.ids.specs.Digits.{digits_form, is_lower_digit}
use Rattle.ids.specs.Form.{IsOf}
use Rattle.ids.proofs.DigitsLemmas.{AllPass-digits}
use Rattle.json.specs.Print.{escape, escape_byte, quoted}
use Rattle.serde_json.specs.View.{items_of}
use Rattle.serde_json.specs.Written.{items_text}
use Rattle.json_words.specs.IdText.{id_data}
use Rattle.http_front.specs.IdArray.{array_text}
use Rattle.http_front.specs.Rows.{rows_text}
use Rattle.http_front.specs.declared.row.Row.{Row}
use Rattle.http_front.proofs.RowLemmas.{place_more}

-- the id has its forty digits
abbrev pub HasDigits : List ℕ → Type 0
HasDigits id = IsOf digits_form (encode_lower id)

-- ---- a digit is no byte that JSON escapes

digit_plain : (b : ℕ) → is_lower_digit b ≡ true → escape_byte b ≡ b ∷ []
unfolding escape_byte
digit_plain b is =
    let slash : ((b == 34) || (b == 92)) ≡ false = grind (arith, nat_tests) in
    let eight : (b == 8) ≡ false = grind (arith, nat_tests) in
    let twelve : (b == 12) ≡ false = grind (arith, nat_tests) in
    let ten : (b == 10) ≡ false = grind (arith, nat_tests) in
    let thirteen : (b == 13) ≡ false = grind (arith, nat_tests) in
    let nine : (b == 9) ≡ false = grind (arith, nat_tests) in
    let large : nat_lt b 32 ≡ false = grind (arith, nat_tests) in
    rw (slash, eight, twelve, ten, thirteen, nine, large) refl

digits_plain : (xs : List ℕ) → list_all is_lower_digit xs ≡ true → escape xs ≡ xs
digits_plain [] are = refl
digits_plain (x ∷ xs) are =
    let parts = and_parts (is_lower_digit x) (list_all is_lower_digit xs) are in
    ap₂ (λ (a b : List ℕ). a ++ b) (digit_plain x parts.0) (digits_plain xs parts.1)

quoted_length : (id : List ℕ) → HasDigits id → length (quoted (encode_lower id)) ≡ 42
quoted_length id is =
    let plain = digits_plain (encode_lower id) (list_all-from_AllPass is_lower_digit (encode_lower id) (AllPass-digits (encode_lower id) is)) in
    let whole : length (encode_lower id) ≡ 40 = is.whole in
    let size : length (escape (encode_lower id)) ≡ 40 = ap length plain ∙ whole in
    omega (arith, size, length-append (escape (encode_lower id)) (34 ∷ []))

-- ---- arrays

items_length : (ids : List (List ℕ)) → All HasDigits ids → length (items_text true (items_of (map id_data ids))) ≡ 1 + 43 * length ids
items_length [] are = refl
items_length (id ∷ ids) are =
    let here = quoted_length id (All-head HasDigits id ids are) in
    let rest = items_length ids (All-tail HasDigits id ids are) in
    omega (arith, here, rest, length-append (quoted (encode_lower id)) (items_text true (items_of (map id_data ids))))

pub array_length : (id : List ℕ) (ids : List (List ℕ)) → All HasDigits (id ∷ ids) → length (array_text (id ∷ ids)) ≡ 1 + 43 * length (id ∷ ids)
unfolding array_text
array_length id ids are =
    let here = quoted_length id (All-head HasDigits id ids are) in
    let rest = items_length ids (All-tail HasDigits id ids are) in
    omega (arith, here, rest, length-append (quoted (encode_lower id)) (items_text true (items_of (map id_data ids))))

pub array_size : (ids : List (List ℕ)) (k m : ℕ) → 0 < length ids → length ids ≤ k → All HasDigits (take k ids)
    → min (1 + 43 * length ids) m ≡ min (length (array_text ids)) m
array_size ids k m some past are = by ids some (subst (All HasDigits) (take_all k ids past) are)
  where
    by : (xs : List (List ℕ)) → 0 < length xs → All HasDigits xs → min (1 + 43 * length xs) m ≡ min (length (array_text xs)) m
    by [] some are = absurd (omega (arith, some))
    by (x ∷ xs) some are = ap (λ n. min n m) (sym (array_length x xs are))

pub none_size : (ids : List (List ℕ)) (m : ℕ) → ids ≡ [] → 2 ≤ m → 2 ≡ min (length (array_text ids)) m
unfolding array_text
none_size ids m none large = ap (λ n. n) (omega (arith, large)) ∙ ap (λ (xs : List (List ℕ)). min (length (array_text xs)) m) (sym none)

pub digits_more : (ids : List (List ℕ)) (id digits : List ℕ) → All HasDigits ids → digits ≡ encode_lower id → IsOf digits_form digits → All HasDigits (ids ++ id ∷ [])
digits_more ids id digits are same is = All-push HasDigits ids id are (subst (IsOf digits_form) same is)

-- ---- rows

twenty : (id : List ℕ) → length (encode_lower id) ≡ 40 → length id ≡ 20
twenty id forty = let twice = length-encode_with lower_digits id in omega (arith, forty, twice)

pub row_more : (rows : List Row) (row : Row) → length (encode_lower row.id) ≡ 40
    → length (rows_text (rows ++ row ∷ [])) ≡ length (rows_text rows) + (40 + (4 + length row.bytes))
row_more rows row forty =
    let more = place_more rows row.id row.bytes (twenty row.id forty) in
    omega (arith, more)

pub row_next : (rows : List Row) (i : ℕ) (row : Row) → i < length rows → row ≡ get_or rows i row → take (i + 1) rows ≡ take i rows ++ row ∷ []
row_next rows i row within is = rw (add-one, take-suc rows i row) (ap (λ x. take i rows ++ x ∷ []) (sym is))

-- ---- sums up to a limit

pub min_more : (a b m : ℕ) → min (min a m + min b m) m ≡ min (a + b) m
min_more a b m = omega arith

pub count_more : (i m : ℕ) → min (min (1 + 43 * i) m + 43) m ≡ min (1 + 43 * (i + 1)) m
count_more i m = omega arith
