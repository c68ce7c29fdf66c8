-- One entry more is in the map.
use Rattle.std.proofs.Common.{◌∷◌, ◌++◌, [], All, List, map, take, sym, ap, subst, ◌∙◌}
use Rattle.std.proofs.lemmas.List.{take_more}
use Rattle.std.proofs.lemmas.List.Elements.{All-push}
use Rattle.fs_objects.specs.Placing.{shown, seen}
use Rattle.fs_objects.specs.Spelling.{placed}
use Rattle.fs_objects.specs.Typed.{IsTyped}
use Rattle.fs_objects.specs.declared.dirent.Dirent.{Dirent}
use Rattle.fs_objects.proofs.PlacingLemmas.{placed_shown-push}
use Rattle.fs_objects.proofs.writing.placed_values.Goals as goal

pub loop-entry-preserved : goal.loop-entry-preserved
loop-entry-preserved c =
    let before = take c.loop-entry.entry-index c.args.entries.now in
    let entry = c.entry-item.result in
    let taken = take_more c.args.entries.now c.loop-entry.entry-index entry c.loop-entry-test.true ∙ ap (λ x. before ++ x ∷ []) (sym c.entry-item.is) in
    record {
      value =
          ap (map seen) c.in_ok-insert.ensures.entries
          ∙ placed_shown-push c.loop-entry.by_name.entries c.as_str.result c.in_ok-value.value before entry c.loop-entry.invariant.value c.as_str.ensures.value c.in_ok-value.ensures.value
          ∙ ap (λ entries. map shown (placed [] entries)) (sym taken);
      typed = let P : List Dirent → Type 0 = λ entries. All IsTyped entries in
          subst P (sym taken) (All-push IsTyped before entry c.loop-entry.invariant.typed c.in_ok-value.ensures.typed);
    }
