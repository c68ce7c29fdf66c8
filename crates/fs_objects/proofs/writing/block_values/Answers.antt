-- One block more is in the list.
use Rattle.std.proofs.Common.{◌∷◌, ◌++◌, [], All, List, ℕ, map, take, sym, ap, subst, ◌∙◌}
use Rattle.std.proofs.lemmas.List.{take_more, map-append}
use Rattle.std.proofs.lemmas.List.Elements.{All-push}
use Rattle.serde_json.specs.View.{view}
use Rattle.json_words.specs.IdText.{id_data, IsId}
use Rattle.fs_objects.proofs.writing.block_values.Goals as goal

pub loop-id-preserved : goal.loop-id-preserved
loop-id-preserved c =
    let before = take c.loop-id.id-index c.args.blocks.now in
    let id = c.id-item.result in
    let taken = take_more c.args.blocks.now c.loop-id.id-index id c.loop-id-test.true ∙ ap (λ x. before ++ x ∷ []) (sym c.id-item.is) in
    record {
      value =
          ap (map view) c.in_ok-push.ensures.items
          ∙ map-append view c.loop-id.values.items (c.in_ok-value.value ∷ [])
          ∙ ap (λ values. values ++ view c.in_ok-value.value ∷ []) c.loop-id.invariant.value
          ∙ ap (λ value. map id_data before ++ value ∷ []) c.in_ok-value.ensures.value
          ∙ sym (ap (map id_data) taken ∙ map-append id_data before (id ∷ []));
      typed = let P : List (List ℕ) → Type 0 = λ ids. All IsId ids in
          subst P (sym taken) (All-push IsId before id c.loop-id.invariant.typed c.id_value.ensures.reads_back);
    }
