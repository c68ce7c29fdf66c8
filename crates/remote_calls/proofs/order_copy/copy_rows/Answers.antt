-- One row more is copied.
use Rattle.std.proofs.Common.{◌≡◌, ◌+◌, [], ◌∷◌, ◌++◌, List, take, sym, ap, ◌∙◌}
use Rattle.std.proofs.lemmas.List.{take_all, take_more}
use Rattle.http_front.specs.declared.row.Row.{Row}
use Rattle.remote_calls.proofs.order_copy.copy_rows.Goals as goal

pub loop-row-preserved : goal.loop-row-preserved
loop-row-preserved c =
    let before = take c.loop-row.row-index c.args.rows.now in
    let row = c.row-item.result in
    let taken : take (c.loop-row.row-index + 1) c.args.rows.now ≡ before ++ row ∷ [] =
    take_more c.args.rows.now c.loop-row.row-index row c.loop-row-test.true ∙ ap (λ (r : Row). before ++ r ∷ []) (sym c.row-item.is) in
    c.in_ok-push.ensures.ok
    ∙ ap (λ (rs : List Row). rs ++ c.in_ok-next.next ∷ []) c.loop-row.invariant
    ∙ ap (λ (r : Row). before ++ r ∷ []) c.in_ok-next.ensures.value
    ∙ sym taken

pub returns : goal.returns
returns c = record { value = c.loop-row.invariant ∙ take_all c.loop-row.row-index c.args.rows.now c.loop-row-test.false }
