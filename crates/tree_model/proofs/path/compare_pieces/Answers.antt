use Rattle.std.proofs.Common.{sym, ◌∙◌, arith}
use Rattle.tree_model.proofs.ListComparisonLemmas.{compared_same, compared_apart, compared_longer, compared_shorter, compared_ends}
use Rattle.tree_model.proofs.path.compare_pieces.Goals as goal

pub returns-then-a-b : goal.returns-then-a-b
returns-then-a-b c = record {
  value = c.cmp.ensures ∙ compared_apart _ _ c.loop-a.place _ _ c.in-Some-Some.ensures.value c.in-Some-Some.ensures'.value c.if-a-b.true ∙ sym c.loop-a.invariant.rest;
}

pub returns-in-Some-None : goal.returns-in-Some-None
returns-in-Some-None c = record {
  value = compared_longer _ _ c.loop-a.place _ c.in-Some-None.ensures.value c.in-Some-None.ensures'.value ∙ sym c.loop-a.invariant.rest;
}

pub returns-in-None-Some : goal.returns-in-None-Some
returns-in-None-Some c = record {
  value = compared_shorter _ _ c.loop-a.place _ (sym c.in-None-Some.is-0 ∙ c.byte_at.ensures.value) c.in-None-Some.ensures.value ∙ sym c.loop-a.invariant.rest;
}

pub returns-in-None-None : goal.returns-in-None-None
returns-in-None-None c = record {
  value = compared_ends _ _ c.loop-a.place (sym c.in-None-None.is-0 ∙ c.byte_at.ensures.value) c.in-None-None.ensures.value ∙ sym c.loop-a.invariant.rest;
}

pub loop-a-preserved : goal.loop-a-preserved
loop-a-preserved c = record {
  within = omega (arith, c.in-Some-Some.ensures.bound);
  rest = c.loop-a.invariant.rest ∙ compared_same _ _ c.loop-a.place _ _ c.in-Some-Some.ensures.value c.in-Some-Some.ensures'.value c.if-a-b.false;
}
