use Rattle.std.proofs.Common.{List, ap₂, ◌∙◌, ◌||◌, subst}
use Rattle.std.specs.List.{list_any}
use Rattle.tree_model.specs.DirectorySurvival.{is_under, is_within}
use Rattle.tree_model.specs.Path.{PathV}
use Rattle.tree_checkout.specs.Hindrances.{IsTableOf}
use Rattle.tree_checkout.proofs.hindrances.hindrances_of.Goals as goal

pub returns : goal.returns
returns c = record {
  value = record {
    skipped = subst (IsTableOf c.in_ok-skipped.skipped) c.slice.ensures.value c.in_ok-skipped.ensures.value;
    hiding = λ path.
        c.in_ok-hiding.ensures.value path
        ∙ ap₂ (λ (a b : List PathV). list_any (is_under path) a || list_any (is_within path) b) c.slice-2.ensures.value c.slice-3.ensures.value;
  };
}
