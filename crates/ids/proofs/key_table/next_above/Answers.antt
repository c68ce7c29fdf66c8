-- The first key of the range above a key is the least above it.
use Rattle.ids.proofs.KeyOrderLemmas.{key_cmp_total}
use Rattle.ids.proofs.MapLemmas.{least_above-range, none_above-range}
use Rattle.ids.proofs.key_table.next_above.Goals as goal

pub returns-in-Some : goal.returns-in-Some
returns-in-Some g c = record {
  value = least_above-range key_cmp_total c.args.held.now c.args.after c.range.result (c.in-Some.key.now, c.in-Some.field-0-1.now) c.next.new.self
      (c.range.ensures.in_range tt) c.in-Some.ensures.steps;
}

pub returns-in-None : goal.returns-in-None
returns-in-None g c = record {
  value = none_above-range key_cmp_total c.args.held.now c.args.after c.range.result (c.range.ensures.in_range tt) c.in-None.ensures.steps.0;
}
