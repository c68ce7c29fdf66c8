-- Rows at the front of bytes. The lemmas that callers want are whole_row, no_row_short, no_row_digits, no_row_size,
-- rows_text-push and rows_once.
use Rattle.std.proofs.Common.{◌≡◌, ℕ, zero, suc, ◌+◌, ◌-◌, ◌*◌, ◌<◌, ◌≤◌, All, List, [], ◌∷◌, ◌++◌, length, take, drop, get_or, refl, sym, ap, subst, ◌∙◌, arith, append_assoc, append-nil, length-append, length-drop, Result, Ok, Err}
use Rattle.std.proofs.lemmas.List.{take-append-drop, drop_more, length-take-le, get_or-append-add, take_at, drop_at}
use Rattle.std.proofs.lemmas.List.Elements.{All-get_or}
use Rattle.std.proofs.lemmas.Nat.{be_bytes_4, from_be_bytes-to_be_bytes_4}
use Rattle.std.specs.Int.{from_be_bytes, to_be_bytes, w32}
use Rattle.hex.proofs.HexLemmas.{length-encode_with, decode_of-encode_lower}
use Rattle.hex.specs.Hex.{encode_lower, lower_digits, decode_of}
use Rattle.ids.proofs.DigitsLemmas.{IsOf-encode_lower, IsBytes-from_All}
use Rattle.ids.specs.Digits.{digits_form}
use Rattle.ids.specs.Form.{IsOf}
use Rattle.http_front.specs.Rows.{HasNoRow, IsRow, row_text, row_with, rows_text, IsRowsOf}
use Rattle.http_front.specs.declared.row.Row.{Row}

-- ---- lists

drop_nothing : (n : ℕ) → drop n (◌++◌ {A = ℕ} [] []) ≡ []
drop_nothing zero = refl
drop_nothing (suc n) = refl

drop_again : (m n : ℕ) (xs : List ℕ) → drop n (drop m xs) ≡ drop (m + n) xs
drop_again zero n xs = let same : n ≡ 0 + n = omega arith in ap (λ k. drop k xs) same
drop_again (suc m) n [] = let same : suc m + n ≡ suc (m + n) = omega arith in drop_nothing n ∙ sym (ap (λ k. drop k (◌++◌ {A = ℕ} [] [])) same)
drop_again (suc m) n (x ∷ xs) = let same : suc (m + n) ≡ suc m + n = omega arith in drop_again m n xs ∙ ap (λ k. drop k (x ∷ xs)) same

-- the four bytes at 40
abbrev four_at : List ℕ → List ℕ
four_at rest = get_or rest 40 0 ∷ get_or rest 41 0 ∷ get_or rest 42 0 ∷ get_or rest 43 0 ∷ []

-- bytes of 44 or more are 40, four, so many and the rest
cut_front : (rest : List ℕ) (size : ℕ) → 44 ≤ length rest → rest ≡ take 40 rest ++ (four_at rest ++ (take size (drop 44 rest) ++ drop (44 + size) rest))
cut_front rest size long =
    let at_43 : drop 43 rest ≡ get_or rest 43 0 ∷ drop 44 rest = drop_more rest 43 0 (omega (arith, long)) in
    let at_42 : drop 42 rest ≡ get_or rest 42 0 ∷ get_or rest 43 0 ∷ drop 44 rest = drop_more rest 42 0 (omega (arith, long)) ∙ ap (λ t. get_or rest 42 0 ∷ t) at_43 in
    let at_41 : drop 41 rest ≡ get_or rest 41 0 ∷ get_or rest 42 0 ∷ get_or rest 43 0 ∷ drop 44 rest = drop_more rest 41 0 (omega (arith, long)) ∙ ap (λ t. get_or rest 41 0 ∷ t) at_42 in
    let at_40 : drop 40 rest ≡ four_at rest ++ drop 44 rest = drop_more rest 40 0 (omega (arith, long)) ∙ ap (λ t. get_or rest 40 0 ∷ t) at_41 in
    let tail : drop 44 rest ≡ take size (drop 44 rest) ++ drop (44 + size) rest =
    sym (take-append-drop size (drop 44 rest)) ∙ ap (λ t. take size (drop 44 rest) ++ t) (drop_again 44 size rest) in
    sym (take-append-drop 40 rest) ∙ ap (λ t. take 40 rest ++ t) (at_40 ∙ ap (λ t. four_at rest ++ t) tail)

-- ---- one row

-- what is read at the front is a row
pub whole_row : (rest id : List ℕ) (size : ℕ) → All (λ byte. byte < 256) rest → 44 ≤ length rest → size ≤ length rest - 44 → take 40 rest ≡ encode_lower id → size ≡ from_be_bytes w32 (four_at rest)
    → rest ≡ encode_lower id ++ (to_be_bytes w32 (length (take size (drop 44 rest))) ++ (take size (drop 44 rest) ++ drop (44 + length (take size (drop 44 rest))) rest))
whole_row rest id size bytes long enough digits is =
    let small : (i : ℕ) → get_or (four_at rest) i 0 < 256 = λ i. four_small rest bytes long i in
    let size_is : length (take size (drop 44 rest)) ≡ size = length-take-le size (drop 44 rest) (omega (arith, enough, length-drop 44 rest)) in
    let four : to_be_bytes w32 size ≡ four_at rest = be_bytes_4 (four_at rest) size refl small is in
    let at_size : rest ≡ encode_lower id ++ (to_be_bytes w32 size ++ (take size (drop 44 rest) ++ drop (44 + size) rest)) =
    cut_front rest size long ∙ (λ i. digits i ++ (sym four i ++ (take size (drop 44 rest) ++ drop (44 + size) rest))) in
    at_size ∙ (λ i. encode_lower id ++ (to_be_bytes w32 (sym size_is i) ++ (take size (drop 44 rest) ++ drop (44 + sym size_is i) rest)))
  where
    one_small : (rest : List ℕ) → All (λ byte. byte < 256) rest → (k : ℕ) → k < length rest → get_or rest k 0 < 256
    one_small rest bytes k below = All-get_or (λ byte. byte < 256) rest k 0 below bytes

    four_small : (rest : List ℕ) → All (λ byte. byte < 256) rest → 44 ≤ length rest → (i : ℕ) → get_or (four_at rest) i 0 < 256
    four_small rest bytes long zero = one_small rest bytes 40 (omega (arith, long))
    four_small rest bytes long (suc zero) = one_small rest bytes 41 (omega (arith, long))
    four_small rest bytes long (suc (suc zero)) = one_small rest bytes 42 (omega (arith, long))
    four_small rest bytes long (suc (suc (suc zero))) = one_small rest bytes 43 (omega (arith, long))
    four_small rest bytes long (suc (suc (suc (suc i)))) = omega arith

length-digits : (id : List ℕ) → length id ≡ 20 → length (encode_lower id) ≡ 40
length-digits id size = length-encode_with lower_digits id ∙ (let twice : 2 * length id ≡ 40 = omega (arith, size) in twice)

-- a row at the front, cut into its digits, the four bytes of its length, its bytes and what follows
row_cut : (row : Row) (more : List ℕ) → row_text row ++ more ≡ encode_lower row.id ++ (to_be_bytes w32 (length row.bytes) ++ (row.bytes ++ more))
row_cut row more =
    append_assoc (encode_lower row.id) (to_be_bytes w32 (length row.bytes) ++ row.bytes) more
    ∙ ap (λ t. encode_lower row.id ++ t) (append_assoc (to_be_bytes w32 (length row.bytes)) row.bytes more)

record IsFront (rest : List ℕ) (row : Row) (more : List ℕ) : Type 0 where
  size : length rest ≡ 44 + length row.bytes + length more
  digits : take 40 rest ≡ encode_lower row.id
  told : from_be_bytes w32 (four_at rest) ≡ length row.bytes

row_front : (rest : List ℕ) (row : Row) (more : List ℕ) → IsRow row → rest ≡ row_text row ++ more → IsFront rest row more
row_front rest row more is whole =
    let n = length row.bytes in
    let tail = row.bytes ++ more in
    let cut : rest ≡ encode_lower row.id ++ (to_be_bytes w32 n ++ tail) = whole ∙ row_cut row more in
    let forty = length-digits row.id is.id_size in
    let at : (i : ℕ) → get_or rest (40 + i) 0 ≡ get_or (to_be_bytes w32 n ++ tail) i 0 = λ i.
    ap (λ (t : List ℕ). get_or t (40 + i) 0) cut ∙ ap (λ k. get_or (encode_lower row.id ++ (to_be_bytes w32 n ++ tail)) (k + i) 0) (sym forty)
    ∙ get_or-append-add (encode_lower row.id) (to_be_bytes w32 n ++ tail) i 0 in
    let four : four_at rest ≡ to_be_bytes w32 n = λ i. at 0 i ∷ at 1 i ∷ at 2 i ∷ at 3 i ∷ [] in
    let tail_size : length tail ≡ n + length more = length-append row.bytes more in
    let four_size : length (to_be_bytes w32 n ++ tail) ≡ 4 + length tail = length-append (to_be_bytes w32 n) tail in
    let all_size : length rest ≡ length (encode_lower row.id) + length (to_be_bytes w32 n ++ tail) = ap length cut ∙ length-append (encode_lower row.id) (to_be_bytes w32 n ++ tail) in
    record {
      size = all_size ∙ (λ i. forty i + four_size i) ∙ (let sum : 40 + (4 + length tail) ≡ 44 + n + length more = omega (arith, tail_size) in sum);
      digits = ap (λ (t : List ℕ). take 40 t) cut ∙ take_at (encode_lower row.id) (to_be_bytes w32 n ++ tail) 40 forty;
      told = ap (from_be_bytes w32) four ∙ from_be_bytes-to_be_bytes_4 n is.fits;
    }

pub no_row_short : (rest : List ℕ) → length rest < 44 → HasNoRow rest
no_row_short rest short row more is whole = let front = row_front rest row more is whole in absurd (omega (arith, short, front.size))

pub no_row_digits : (rest : List ℕ) → (IsOf digits_form (take 40 rest) → ⊥) → HasNoRow rest
no_row_digits rest none row more is whole =
    let front = row_front rest row more is whole in
    none (subst (IsOf digits_form) (sym front.digits) (IsOf-encode_lower row.id is.id_size is.id_bytes))

pub no_row_size : (rest : List ℕ) (size : ℕ) → size ≡ from_be_bytes w32 (four_at rest) → length rest - 44 < size → HasNoRow rest
no_row_size rest size is_told long row more is whole =
    let front = row_front rest row more is whole in
    let same : size ≡ length row.bytes = is_told ∙ front.told in
    absurd (omega (arith, long, front.size, same))

-- ---- several rows

pub rows_text-push : (rows : List Row) (row : Row) → rows_text (rows ++ row ∷ []) ≡ rows_text rows ++ row_text row
rows_text-push [] row = append-nil (row_text row)
rows_text-push (first ∷ rows) row = ap (λ t. row_text first ++ t) (rows_text-push rows row) ∙ sym (append_assoc (row_text first) (rows_text rows) (row_text row))

-- one row more was read
pub one_more : (body : List ℕ) (rows : List Row) (at : ℕ) (id bytes : List ℕ) → body ≡ rows_text rows ++ drop at body
    → drop at body ≡ encode_lower id ++ (to_be_bytes w32 (length bytes) ++ (bytes ++ drop (44 + length bytes) (drop at body)))
    → body ≡ rows_text (rows ++ row_with id bytes ∷ []) ++ drop (at + (44 + length bytes)) body
one_more body rows at id bytes whole front =
    let row = row_with id bytes in
    let after = drop (44 + length bytes) (drop at body) in
    let is_row : drop at body ≡ row_text row ++ after = front ∙ sym (row_cut row after) in
    whole ∙ ap (λ t. rows_text rows ++ t) is_row ∙ sym (append_assoc (rows_text rows) (row_text row) after)
    ∙ (λ i. sym (rows_text-push rows row) i ++ drop_again at (44 + length bytes) body i)

pub place_more : (rows : List Row) (id bytes : List ℕ) → length id ≡ 20 → length (rows_text (rows ++ row_with id bytes ∷ [])) ≡ length (rows_text rows) + (44 + length bytes)
place_more rows id bytes size =
    let row = row_with id bytes in
    let inner : length (to_be_bytes w32 (length bytes) ++ bytes) ≡ 4 + length bytes = length-append (to_be_bytes w32 (length bytes)) bytes in
    let own : length (row_text row) ≡ length (encode_lower id) + length (to_be_bytes w32 (length bytes) ++ bytes) = length-append (encode_lower id) (to_be_bytes w32 (length bytes) ++ bytes) in
    let forty = length-digits id size in
    let sum : length (row_text row) ≡ 44 + length bytes = own ∙ (λ i. forty i + inner i) ∙ (let s : 40 + (4 + length bytes) ≡ 44 + length bytes = omega arith in s) in
    ap length (rows_text-push rows row) ∙ length-append (rows_text rows) (row_text row) ∙ ap (λ n. length (rows_text rows) + n) sum

-- ---- rows are read in one way

first_row : (row : Row) (rows : List Row) → All IsRow (row ∷ rows) → IsRow row
first_row row rows all = all zero row (omega arith)

later_rows : (row : Row) (rows : List Row) → All IsRow (row ∷ rows) → All IsRow rows
later_rows row rows all k d below = all (suc k) d (omega (arith, below))

-- what is behind a front of one length
behind_same : (front other rest more : List ℕ) → front ≡ other → front ++ rest ≡ other ++ more → rest ≡ more
behind_same front other rest more same whole =
    sym (drop_at front rest (length front) refl) ∙ ap (drop (length front)) whole ∙ drop_at other more (length front) (sym (ap length same))

parted : (xs ys rest more : List ℕ) → length xs ≡ length ys → xs ++ rest ≡ ys ++ more → (xs ≡ ys) × (rest ≡ more)
parted xs ys rest more size whole =
    let same : xs ≡ ys = sym (take_at xs rest (length xs) refl) ∙ ap (take (length xs)) whole ∙ take_at ys more (length xs) (sym size) in
    (same, behind_same xs ys rest more same whole)

ok_same : {E : Type 0} (a b : List ℕ) → ◌≡◌ {A = Result (List ℕ) E} (Ok a) (Ok b) → a ≡ b
ok_same a b e = cc

id_once : (id other : List ℕ) → All (λ byte. byte < 256) id → All (λ byte. byte < 256) other → encode_lower id ≡ encode_lower other → id ≡ other
id_once id other bytes other_bytes same =
    ok_same id other (sym (decode_of-encode_lower id (IsBytes-from_All id bytes)) ∙ ap decode_of same ∙ decode_of-encode_lower other (IsBytes-from_All other other_bytes))

one_row : (row other : Row) (rest more : List ℕ) → IsRow row → IsRow other → row_text row ++ rest ≡ row_text other ++ more → (row ≡ other) × (rest ≡ more)
one_row row other rest more is is_other whole =
    let front = row_front (row_text row ++ rest) row rest is refl in
    let other_front = row_front (row_text row ++ rest) other more is_other whole in
    let digits : encode_lower row.id ≡ encode_lower other.id = sym front.digits ∙ other_front.digits in
    let ids : row.id ≡ other.id = id_once row.id other.id is.id_bytes is_other.id_bytes digits in
    let size : length row.bytes ≡ length other.bytes = sym front.told ∙ other_front.told in
    let cut : encode_lower row.id ++ (to_be_bytes w32 (length row.bytes) ++ (row.bytes ++ rest)) ≡ encode_lower other.id ++ (to_be_bytes w32 (length other.bytes) ++ (other.bytes ++ more)) =
    sym (row_cut row rest) ∙ whole ∙ row_cut other more in
    let after_id = behind_same _ _ _ _ digits cut in
    let after_size = behind_same _ _ _ _ (ap (to_be_bytes w32) size) after_id in
    let parts = parted row.bytes other.bytes rest more size after_size in
    (λ i. record { id = ids i; bytes = parts.0 i }, parts.1)

-- rows with no row behind them are all that stand there
same_rows : (rows others : List Row) (rest more : List ℕ) → All IsRow rows → All IsRow others → HasNoRow rest → HasNoRow more → rows_text rows ++ rest ≡ rows_text others ++ more
    → (rows ≡ others) × (rest ≡ more)
same_rows [] [] rest more all all_others none none_more whole = (refl, whole)
same_rows [] (other ∷ others) rest more all all_others none none_more whole =
    absurd (none other (rows_text others ++ more) (first_row other others all_others) (whole ∙ append_assoc (row_text other) (rows_text others) more))
same_rows (row ∷ rows) [] rest more all all_others none none_more whole =
    absurd (none_more row (rows_text rows ++ rest) (first_row row rows all) (sym whole ∙ append_assoc (row_text row) (rows_text rows) rest))
same_rows (row ∷ rows) (other ∷ others) rest more all all_others none none_more whole =
    let one = one_row row other (rows_text rows ++ rest) (rows_text others ++ more) (first_row row rows all) (first_row other others all_others)
    (sym (append_assoc (row_text row) (rows_text rows) rest) ∙ whole ∙ append_assoc (row_text other) (rows_text others) more) in
    let later = same_rows rows others rest more (later_rows row rows all) (later_rows other others all_others) none none_more one.1 in
    (λ i. one.0 i ∷ later.0 i, later.1)

nothing_left : HasNoRow []
nothing_left = no_row_short [] (omega arith)

pub rows_once : (body : List ℕ) (told other : Result (List Row) ℕ) → IsRowsOf body told → IsRowsOf body other → told ≡ other
rows_once body (Ok rows) (Ok others) is is_other =
    ap Ok (same_rows rows others [] [] is.0 is_other.0 nothing_left nothing_left (append-nil (rows_text rows) ∙ sym is.1 ∙ is_other.1 ∙ sym (append-nil (rows_text others)))).0
rows_once body (Ok rows) (Err at) is bad =
    absurd (bad.more (sym (same_rows rows bad.front [] bad.rest is.0 bad.are_rows nothing_left bad.no_row (append-nil (rows_text rows) ∙ sym is.1 ∙ bad.whole)).1))
rows_once body (Err at) (Ok rows) bad is =
    absurd (bad.more (same_rows bad.front rows bad.rest [] bad.are_rows is.0 bad.no_row nothing_left (sym bad.whole ∙ is.1 ∙ sym (append-nil (rows_text rows)))).1)
rows_once body (Err at) (Err place) bad worse =
    let same = same_rows bad.front worse.front bad.rest worse.rest bad.are_rows worse.are_rows bad.no_row worse.no_row (sym bad.whole ∙ worse.whole) in
    ap Err (bad.place ∙ ap (λ rows. length (rows_text rows)) same.0 ∙ sym worse.place)
