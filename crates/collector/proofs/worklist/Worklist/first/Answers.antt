-- The place is that of the first that waits.
use Rattle.std.proofs.Common.{ap, ◌∙◌, get_or, arith, List, refl}
use Rattle.ids.specs.declared.key.Key.{Key}
use Rattle.collector.proofs.WorklistLemmas.{first_waits, none_waits}
use Rattle.collector.proofs.worklist.Worklist.first.Goals as goal

pub returns-then-self-len : goal.returns-then-self-len
returns-then-self-len c = record {
  value =
      rw (← c.self.view_is)
      (first_waits c.self.inside.order c.self.inside.next c.index-slice-self.result (omega (arith, c.if-self-len.true, c.len.ensures.value))
      (c.index-slice-self.is ∙ ap (λ (keys : List Key). get_or keys c.self.inside.next c.index-slice-self.result) c.slice.ensures.value));
}

pub returns-else-self-len : goal.returns-else-self-len
returns-else-self-len c = record {
  value = rw (← c.self.view_is, none_waits c.self.inside.order c.self.inside.next (omega (arith, c.if-self-len.false, c.len.ensures.value))) refl;
}
