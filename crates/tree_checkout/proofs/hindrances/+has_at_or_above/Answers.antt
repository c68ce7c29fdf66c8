use Rattle.tree_checkout.proofs.HindrancesLemmas.{front_here, front_next, front_none}
use Rattle.tree_checkout.proofs.hindrances.+has_at_or_above.Goals as goal

pub returns-then-has : goal.returns-then-has
returns-then-has t c = record { value = λ paths is. front_here c.args.table.now paths is c.args.path c.has.result c.has.ensures.value c.if-has.true }

pub returns-in_default : goal.returns-in_default
returns-in_default t c = record { value = λ paths is. front_none c.args.table.now paths is c.args.path c.has.result c.has.ensures.value c.if-has.false c.in_default.ensures.value }

pub returns : goal.returns
returns t c = record {
  value = λ paths is. front_next c.args.table.now paths is c.args.path c.has.result c.has.ensures.value c.if-has.false
      c.in-Some.dir c.in-Some.field-0-1 c.in-Some.ensures.value c.has_at_or_above.result (c.has_at_or_above.ensures.value paths is);
}
