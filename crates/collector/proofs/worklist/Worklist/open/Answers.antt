-- One key more is opened.
use Rattle.std.proofs.Common.{◌≢◌, ◌+◌, [], arith, subst, sym}
use Rattle.collector.proofs.WorklistLemmas.{more_waits, opened_one, opens_next, worklist_of}
use Rattle.collector.specs.Worklist.{Opens, WorklistView}
use Rattle.collector.proofs.worklist.Worklist.open.Goals as goal

pub returns-then-self-len : goal.returns-then-self-len
returns-then-self-len c = record {
  value = λ some.
      let more = more_waits c.self.inside.order c.self.inside.next (subst (λ (w : WorklistView). w.waiting ≢ []) (sym c.self.view_is) some) in
      let no : ⊥ = omega (arith, more, c.if-self-len.true, c.len.ensures.value) in absurd no;
}

pub invariant_of-self : goal.invariant_of-self
invariant_of-self c =
    opened_one c.self.inside.order c.self.inside.met c.self.inside.next c.self.invariant (omega (arith, c.if-self-len.false, c.len.ensures.value))

pub returns : goal.returns
returns c = record {
  value = λ some.
      subst (λ (w : WorklistView). Opens w (worklist_of c.self.inside.order (c.self.inside.next + 1))) c.self.view_is
      (opens_next c.self.inside.order c.self.inside.next (omega (arith, c.if-self-len.false, c.len.ensures.value)));
}
