-- One row more is in the text.
use Rattle.std.proofs.Common.{◌≡◌, ◌<◌, ◌+◌, ◌∷◌, ◌++◌, [], ℕ, List, length, take, sym, ap, subst, ◌∙◌}
use Rattle.std.proofs.lemmas.List.{take_more}
use Rattle.std.proofs.lemmas.List.Elements.{All-push}
use Rattle.std.specs.Int.{to_be_bytes, w32}
use Rattle.hex.specs.Hex.{encode_lower}
use Rattle.http_front.specs.Rows.{FitRows, rows_text}
use Rattle.http_front.specs.declared.row.Row.{Row}
use Rattle.http_front.proofs.RowLemmas.{rows_text-push}
use Rattle.http_front.proofs.row.write_rows.Goals as goal

pub loop-row-preserved : goal.loop-row-preserved
loop-row-preserved c =
    let before = take c.loop-row.row-index c.args.rows.now in
    let row = c.row-item.result in
    let taken : take (c.loop-row.row-index + 1) c.args.rows.now ≡ before ++ row ∷ [] =
    take_more c.args.rows.now c.loop-row.row-index row c.loop-row-test.true ∙ ap (λ (r : Row). before ++ r ∷ []) (sym c.row-item.is) in
    let bytes_are : c.slice.result.now ≡ row.bytes = c.slice.ensures.value in
    let IsShort : List ℕ → Type 0 = λ bytes. length bytes < 4294967296 in
    record {
      text = c.in_ok-push_row.ensures.ok ∙ (λ i. c.loop-row.invariant.text i ++ (encode_lower row.id ++ (to_be_bytes w32 (length (bytes_are i)) ++ bytes_are i)))
          ∙ sym (ap rows_text taken ∙ rows_text-push before row);
      fits = let P : List Row → Type 0 = λ rows. FitRows rows in
          subst P (sym taken) (All-push (λ (r : Row). length r.bytes < 4294967296) before row c.loop-row.invariant.fits (subst IsShort bytes_are c.in_ok-push_row.ensures.fits));
    }
