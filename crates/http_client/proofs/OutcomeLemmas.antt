-- Rows and ids that are compared one by one. The lemmas that callers want are ids_more, ids_all, ids_differ, no_rows,
-- other_rows and among_more.
use Rattle.std.proofs.Common.{◌≡◌, ℕ, ◌+◌, ◌<◌, ◌≤◌, not, IsTrue, Bool, true, false, List, [], ◌∷◌, ◌++◌, length, map, take, get_or, sym, ap, ap₂, ◌∙◌, arith, Result, Ok, Err}
use Rattle.std.proofs.lemmas.Bool.{true≢false, not-false}
use Rattle.std.proofs.lemmas.Slice.Eq.{bytes_eq-Decides}
use Rattle.std.specs.Str.{bytes_eq}
use Rattle.std.proofs.lemmas.List.{get_or-map, map_more, take_all, take_more}
use Rattle.http_front.specs.Rows.{IsRowsOf}
use Rattle.http_front.specs.declared.row.Row.{Row}
use Rattle.http_front.proofs.RowLemmas.{rows_once}
use Rattle.http_client.specs.OrderOutcome.{row_id}

pub ids_more : (rows : List Row) (ids : List (List ℕ)) (k : ℕ) (d : Row) (e : List ℕ) → k < length rows → length rows ≡ length ids
    → map row_id (take k rows) ≡ take k ids → row_id (get_or rows k d) ≡ get_or ids k e → map row_id (take (k + 1) rows) ≡ take (k + 1) ids
ids_more rows ids k d e below same so_far here =
    map_more row_id rows k d below
    ∙ ap₂ (λ (xs : List (List ℕ)) (x : List ℕ). xs ++ x ∷ []) so_far here
    ∙ sym (take_more ids k e (omega (arith, below, same)))

pub ids_differ : (rows : List Row) (ids : List (List ℕ)) (k : ℕ) (d : Row) (e : List ℕ) → k < length rows
    → (row_id (get_or rows k d) ≡ get_or ids k e → ⊥) → map row_id rows ≡ ids → ⊥
ids_differ rows ids k d e below other same =
    other (sym (get_or-map row_id rows k d e below) ∙ ap (λ (xs : List (List ℕ)). get_or xs k e) same)

pub no_rows : (body : List ℕ) (at : ℕ) (rows : List Row) → IsRowsOf body (Err at) → IsRowsOf body (Ok rows) → ⊥
no_rows body at rows bad good = let same : ◌≡◌ {A = Result (List Row) ℕ} (Err at) (Ok rows) = rows_once body (Err at) (Ok rows) bad good in cc

pub same_rows : (body : List ℕ) (rows other : List Row) → IsRowsOf body (Ok rows) → IsRowsOf body (Ok other) → rows ≡ other
same_rows body rows other a b = let same : ◌≡◌ {A = Result (List Row) ℕ} (Ok rows) (Ok other) = rows_once body (Ok rows) (Ok other) a b in cc

pub not_same : (a b : List ℕ) → true ≡ not (bytes_eq a b) → a ≡ b → ⊥
not_same a b apart same = let bad : true ≡ false = apart ∙ ap not ((bytes_eq-Decides a b).1 same) in true≢false bad

pub same_by : (a b : List ℕ) → false ≡ not (bytes_eq a b) → a ≡ b
same_by a b same = (bytes_eq-Decides a b).0 (not-false (bytes_eq a b) (sym same))

-- the rows are those of the ids where all are compared
pub ids_all : (rows : List Row) (ids : List (List ℕ)) (k : ℕ) → length rows ≤ k → length rows ≡ length ids
    → map row_id (take k rows) ≡ take k ids → map row_id rows ≡ ids
ids_all rows ids k past same is =
    ap (map row_id) (sym (take_all k rows past)) ∙ is ∙ take_all k ids (omega (arith, past, same))

-- a test that tells that other rows are not those of the ids
pub other_rows : (body : List ℕ) (ids : List (List ℕ)) (rows : List Row) (test : Bool) → IsRowsOf body (Ok rows) → (map row_id rows ≡ ids → IsTrue test)
    → test ≡ false → (other : List Row) → IsRowsOf body (Ok other) → map row_id other ≡ ids → ⊥
other_rows body ids rows test is tells fails other other_is same =
    let here : map row_id rows ≡ ids = ap (map row_id) (same_rows body rows other is other_is) ∙ same in
    true≢false (sym (tells here) ∙ fails)
