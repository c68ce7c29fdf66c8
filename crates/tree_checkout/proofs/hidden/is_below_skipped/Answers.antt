use Rattle.std.proofs.Common.{◌∙◌, ap}
use Rattle.std.specs.List.{list_any}
use Rattle.tree_model.specs.DirectorySurvival.{is_within}
use Rattle.tree_model.specs.Path.{PathV}
use Rattle.tree_checkout.proofs.HindrancesLemmas.{none_of}
use Rattle.tree_checkout.proofs.hidden.is_below_skipped.Goals as goal

pub returns-then-is_empty : goal.returns-then-is_empty
returns-then-is_empty c = record {
  value = none_of (λ other. is_within other c.args.path.now) c.args.scan.now.skipped c.is_empty.result c.is_empty.ensures.value c.if-is_empty.true;
}

pub returns : goal.returns
returns c = record {
  value =
      c.has_at_or_above.ensures.value c.args.scan.now.skipped c.requires.told.skipped
      ∙ ap (λ (p : PathV). list_any (λ other. is_within other p) c.args.scan.now.skipped) c.in_ok-copy.ensures.value;
}
