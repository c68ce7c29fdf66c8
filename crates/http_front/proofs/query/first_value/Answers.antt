-- Each part that was passed over has no value of this name.
use Rattle.std.proofs.Common.{Some, None, sym, ◌∙◌, rules}
use Rattle.http_front.proofs.QueryLemmas.{first_part, last_part}
use Rattle.http_front.proofs.query.first_value.Goals as goal

pub returns-in-Some-value_in : goal.returns-in-Some-value_in
returns-in-Some-value_in c =
    sym c.loop-part.invariant.0
    ∙ sym (first_part c.args.name.now c.loop-part.left.now (c.in-Some.part, c.in-Some.rest) (Some c.in-Some-value_in.value.now) c.in-Some.ensures.cases c.in-Some-value_in.ensures)

pub loop-part-preserved : goal.loop-part-preserved
loop-part-preserved c = (
  first_part c.args.name.now c.loop-part.left.now (c.in-Some.part, c.in-Some.rest) None c.in-Some.ensures.cases c.in-None.ensures ∙ c.loop-part.invariant.0,
  search rules,
)

pub returns-in-Some-value_in-2 : goal.returns-in-Some-value_in-2
returns-in-Some-value_in-2 c =
    sym c.loop-part.invariant.0
    ∙ sym (last_part c.args.name.now c.loop-part.left.now c.split_once.result (Some c.in-Some-value_in-2.value.now) c.split_once.ensures.cases c.in_default.is c.in-Some-value_in-2.ensures)

pub returns-in-None-value_in : goal.returns-in-None-value_in
returns-in-None-value_in c =
    sym c.loop-part.invariant.0
    ∙ sym (last_part c.args.name.now c.loop-part.left.now c.split_once.result None c.split_once.ensures.cases c.in_default.is c.in-None-value_in.ensures)
