use Rattle.std.proofs.Common.{◌≡◌, ◌-◌, ◌^◌, ◌+◌, ℕ, length, min, sym, ap, ap₂, ◌∙◌, take}
use Rattle.std.proofs.lemmas.List.{take_all}
use Rattle.http_front.specs.Rows.{rows_text}
use Rattle.http_client.proofs.BodySizeLemmas.{min_more, row_more, row_next}
use Rattle.http_client.proofs.conditions.rows_size.Goals as goal

abbrev most : ℕ
most = 2 ^ 64 - 1

pub loop-row-preserved : goal.loop-row-preserved
loop-row-preserved c =
    let rows = c.args.rows.now in
    let i = c.loop-row.row-index in
    let row = c.row-item.result in
    let so_far = length (rows_text (take i rows)) in
    let here : c.row_size.result ≡ min (40 + (4 + length row.bytes)) most = c.row_size.ensures.value ∙ ap (λ bytes. min (40 + (4 + length bytes)) most) c.slice.ensures.value in
    c.saturating_add-size.ensures
    ∙ ap₂ (λ (a b : ℕ). min (a + b) most) c.loop-row.invariant here
    ∙ min_more so_far (40 + (4 + length row.bytes)) most
    ∙ ap (λ n. min n most) (sym (row_more (take i rows) row c.row_size.ensures.digits) ∙ ap (λ rs. length (rows_text rs)) (sym (row_next rows i row c.loop-row-test.true c.row-item.is)))

pub returns : goal.returns
returns c = record { value = c.loop-row.invariant ∙ ap (λ rows. min (length (rows_text rows)) most) (take_all c.loop-row.row-index c.args.rows.now c.loop-row-test.false) }
