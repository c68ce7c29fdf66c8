-- The places are listed in the order of the paths that were left.
use Rattle.std.proofs.Common.{[], ◌∷◌, ◌++◌, List, arith, ap, sym, append-nil, append_assoc, ◌∙◌}
use Rattle.std.specs.FinMap as map
use Rattle.tree_model.specs.Path.{PathV}
use Rattle.tree_merge.proofs.MergingLemmas.{values_none, values_popped}
use Rattle.tree_merge.proofs.TableLemmas.{first_popped_len}
use Rattle.tree_merge.proofs.merging.in_order.Goals as goal

pub loop-place-init : goal.loop-place-init
loop-place-init c = ap (λ (ps : List PathV). ps ++ map.values c.args.copies) c.new-conflicts.ensures.value

pub loop-place-smaller : goal.loop-place-smaller
loop-place-smaller c =
    let one = first_popped_len c.loop-place.copies c.pop_first.new.self (c.in-Some.field-0-0, c.in-Some.place) c.in-Some.ensures.found in
    omega arith

pub loop-place-preserved : goal.loop-place-preserved
loop-place-preserved c =
    ap (λ (ps : List PathV). ps ++ map.values c.pop_first.new.self) c.in_ok-push.ensures.ok
    ∙ append_assoc c.loop-place.conflicts (c.in-Some.place ∷ []) (map.values c.pop_first.new.self)
    ∙ ap (λ (ps : List PathV). c.loop-place.conflicts ++ ps) (sym (values_popped c.loop-place.copies c.pop_first.new.self (c.in-Some.field-0-0, c.in-Some.place) c.in-Some.ensures.found))
    ∙ c.loop-place.invariant

pub returns : goal.returns
returns c = record {
  value =
      sym (append-nil c.loop-place.conflicts) ∙ ap (λ (ps : List PathV). c.loop-place.conflicts ++ ps) (sym (values_none c.loop-place.copies c.in_default.ensures.absent)) ∙ c.loop-place.invariant;
}
