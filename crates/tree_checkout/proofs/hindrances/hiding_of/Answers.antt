use Rattle.std.proofs.Common.{◌∙◌, ◌||◌, Bool, ap, subst, sym}
use Rattle.std.specs.List.{list_any}
use Rattle.tree_model.specs.DirectorySurvival.{is_under, is_within}
use Rattle.tree_checkout.specs.Hindrances.{HasAbove, Paths, has}
use Rattle.tree_checkout.proofs.HindrancesLemmas.{above_none, has_none}
use Rattle.tree_checkout.proofs.hindrances.hiding_of.Goals as goal

pub add_all_above-requires : goal.add_all_above-requires
add_all_above-requires c = record { whole = subst HasAbove (sym c.new-table.ensures.value) above_none }

pub returns : goal.returns
returns c = record {
  value = λ q.
      c.in_ok-add_all_within.ensures.ok q
      ∙ ap (λ (b : Bool). b || list_any (is_within q) c.args.nameless.now)
      (c.in_ok-add_all_above.ensures.ok q ∙ ap (λ (t : Paths). has t q || list_any (is_under q) c.args.skipped.now) c.new-table.ensures.value
      ∙ ap (λ (b : Bool). b || list_any (is_under q) c.args.skipped.now) (has_none q));
}
