use Rattle.std.proofs.Common.{◌≡◌, ◌+◌, ◌-◌, ◌∷◌, ◌++◌, [], ◌<◌, ℕ, List, All, length, drop, sym, ap, subst, arith, ◌∙◌, length-drop}
use Rattle.std.proofs.lemmas.List.Elements.{All-push}
use Rattle.std.specs.Int.{to_be_bytes, w32}
use Rattle.hex.specs.Hex.{encode_lower}
use Rattle.http_front.specs.Rows.{HasNoRow, IsRow, row_with, rows_text}
use Rattle.http_front.specs.declared.row.Row.{Row}
use Rattle.http_front.proofs.RowLemmas.{one_more, place_more}
use Rattle.http_front.proofs.row.read_rows.Goals as goal

pub loop-at-smaller : goal.loop-at-smaller
loop-at-smaller c =
    let body = c.args.body.now in
    let n = length c.in-Some.front.1.now in
    let bound = rw c.behind.ensures.value at c.in-Some.ensures.bound in
    let left = length-drop c.loop-at.at body in
    let less : length body - (c.loop-at.at + (44 + n)) < length body - c.loop-at.at = omega (arith, bound, left, c.loop-at-test.true) in
    less

pub loop-at-preserved : goal.loop-at-preserved
loop-at-preserved c =
    let body = c.args.body.now in
    let id = c.in-Some.front.0 in
    let bytes = c.in-Some.front.1.now in
    let row = row_with id bytes in
    let rest = drop c.loop-at.at body in
    let pushed : c.push.new.self ≡ c.loop-at.rows ++ row ∷ [] = c.in-Ok-push.ensures.ok ∙ ap (λ (r : Row). c.loop-at.rows ++ r ∷ []) c.in-Ok.ensures.value in
    let IsWhole : List ℕ → Type 0 = λ t. t ≡ encode_lower id ++ (to_be_bytes w32 (length bytes) ++ (bytes ++ drop (44 + length bytes) t)) in
    let whole = subst IsWhole c.behind.ensures.value c.in-Some.ensures.whole in
    let bound = rw c.behind.ensures.value at c.in-Some.ensures.bound in
    let left = length-drop c.loop-at.at body in
    let is_row : IsRow row = record { id_size = c.in-Some.ensures.id_size; id_bytes = c.in-Some.ensures.id_bytes; fits = c.in-Some.ensures.fits } in
    let AreRows : List Row → Type 0 = λ rows. All IsRow rows in
    record {
      are_rows = subst AreRows (sym pushed) (All-push IsRow c.loop-at.rows row c.loop-at.invariant.are_rows is_row);
      whole = one_more body c.loop-at.rows c.loop-at.at id bytes c.loop-at.invariant.whole whole ∙ ap (λ (rows : List Row). rows_text rows ++ drop (c.loop-at.at + (44 + length bytes)) body) (sym pushed);
      place = ap (λ n. n + (44 + length bytes)) c.loop-at.invariant.place ∙ sym (ap (λ (rows : List Row). length (rows_text rows)) pushed ∙ place_more c.loop-at.rows id bytes c.in-Some.ensures.id_size);
      within = omega (arith, bound, left, c.loop-at-test.true);
    }

pub returns-in-None : goal.returns-in-None
returns-in-None c = record {
  value = record {
    front = c.loop-at.rows;
    rest = drop c.loop-at.at c.args.body.now;
    are_rows = c.loop-at.invariant.are_rows;
    whole = c.loop-at.invariant.whole;
    place = c.loop-at.invariant.place;
    more = λ none. let left = length-drop c.loop-at.at c.args.body.now in let size = ap length none in absurd (omega (arith, c.loop-at-test.true, left, size));
    no_row = subst HasNoRow c.behind.ensures.value c.in-None.ensures.none;
  };
}
