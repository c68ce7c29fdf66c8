use Rattle.std.proofs.Common.{◌+◌, ◌∙◌, sym, ap, take, string_bytes, arith}
use Rattle.tree_model.specs.Path.{PathV, path_text}
use Rattle.tree_model.proofs.PathTextLemmas.{path_text-take}
use Rattle.tree_model.proofs.path.Path.text.Goals as goal

pub loop-place-preserved : goal.loop-place-preserved
loop-place-preserved c =
    let place = c.loop-place.place in
    let same = c.names-name-items.ensures.value in
    c.in_ok-push_name.ensures.ok
    ∙ path_text-take c.names-name-items.result.now place c.name-item.result (string_bytes c.loop-place.text) (omega arith) c.name-item.is (c.loop-place.invariant ∙ ap (λ (p : PathV). path_text (take place p)) (sym same))
    ∙ ap (λ (p : PathV). path_text (take (place + 1) p)) same
