-- The token at the place is the one that the secret shows.
use Rattle.std.proofs.Common.{◌∙◌, ap, nat_le, slice_index_or, sym}
use Rattle.library_state.specs.Rights.{right_number}
use Rattle.library_state.specs.declared.right.Right.{Right}
use Rattle.depot.proofs.PlaceLemmas.{permits_at}
use Rattle.depot.proofs.answering.permitted_place.Goals as goal

pub returns-then-is_enough-clause-found : goal.returns-then-is_enough-clause-found
returns-then-is_enough-clause-found c = record {
  digits = c.in-Some.shown;
  shown = c.in-Some.is;
  at = c.in-Some-place_of.ensures.found;
  right =
      permits_at c.args.tokens.now c.args.secret.now c.in-Some.shown c.args.act.now c.in-Some-place_of.place c.index-tokens-place.result c.in-Some.is c.in-Some-place_of.ensures.found
      ∙ ap (λ (needed : Right). nat_le (right_number needed) (right_number (slice_index_or c.args.tokens.now c.in-Some-place_of.place c.index-tokens-place.result).right)) (sym c.right_needed.ensures.value)
      ∙ sym c.is_enough.ensures.value ∙ c.if-is_enough.true;
}

pub returns-else-is_enough-clause-absent : goal.returns-else-is_enough-clause-absent
returns-else-is_enough-clause-absent c =
    permits_at c.args.tokens.now c.args.secret.now c.in-Some.shown c.args.act.now c.in-Some-place_of.place c.index-tokens-place.result c.in-Some.is c.in-Some-place_of.ensures.found
    ∙ ap (λ (needed : Right). nat_le (right_number needed) (right_number (slice_index_or c.args.tokens.now c.in-Some-place_of.place c.index-tokens-place.result).right)) (sym c.right_needed.ensures.value)
    ∙ sym c.is_enough.ensures.value ∙ c.if-is_enough.false
