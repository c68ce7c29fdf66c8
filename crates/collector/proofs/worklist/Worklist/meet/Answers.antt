-- A key that wasn't met stands at the end of the list and in the table; one that was met changes nothing.
use Rattle.std.proofs.Common.{◌≡◌, List, refl, sym, ◌∙◌, subst, subst₂}
use Rattle.std.specs.Prelude.{⊤}
use Rattle.std.specs.FinMap as map
use Rattle.ids.specs.Key.{key_cmp}
use Rattle.ids.specs.declared.key.Key.{Key}
use Rattle.collector.specs.Worklist.{IsWorklist, with_met}
use Rattle.collector.proofs.WorklistLemmas.{met_again, met_new, met_view, noted_again, noted_back, worklist_of}
use Rattle.collector.proofs.worklist.Worklist.meet.Goals as goal

pub returns-then-again-clause-ok : goal.returns-then-again-clause-ok
returns-then-again-clause-ok c =
    rw (← c.self.view_is) (met_again c.self.inside.order c.self.inside.next c.args.key.now (sym (c.self.invariant.there c.args.key.now) ∙ sym c.in_ok-again.ensures.told ∙ c.if-again.true))

-- met again, the table is the same
pub invariant_of-self-then-again : goal.invariant_of-self-then-again
invariant_of-self-then-again c =
    subst (λ (met : map.FinMap key_cmp ⊤). IsWorklist c.self.inside.order met c.self.inside.next) (sym c.in_ok-again.ensures.ok)
    (noted_again c.self.inside.order c.self.inside.met c.self.inside.next c.args.key.now c.self.invariant
    (sym (c.self.invariant.there c.args.key.now) ∙ sym c.in_ok-again.ensures.told ∙ c.if-again.true))

pub invariant_of-self : goal.invariant_of-self
invariant_of-self c =
    subst (λ (met : map.FinMap key_cmp ⊤). IsWorklist c.self.inside.order met c.self.inside.next) (sym c.in_err-again.ensures.err) c.self.invariant

pub returns-in-Ok-clause-ok : goal.returns-in-Ok-clause-ok
returns-in-Ok-clause-ok c =
    rw (← c.self.view_is)
    (subst (λ (order : List Key). worklist_of order c.self.inside.next ≡ with_met (worklist_of c.self.inside.order c.self.inside.next) c.args.key.now) (sym c.in-Ok.ensures.ok)
    (met_view c.self.inside.order c.self.inside.next c.args.key.now c.self.invariant.within
    (sym (c.self.invariant.there c.args.key.now) ∙ sym c.in_ok-again.ensures.told ∙ c.if-again.false)))

pub invariant_of-self-in-Ok : goal.invariant_of-self-in-Ok
invariant_of-self-in-Ok c =
    subst₂ (λ (order : List Key) (met : map.FinMap key_cmp ⊤). IsWorklist order met c.self.inside.next) (sym c.in-Ok.ensures.ok) (sym c.in_ok-again.ensures.ok)
    (met_new c.self.inside.order c.self.inside.met c.self.inside.next c.args.key.now c.self.invariant
    (sym (c.self.invariant.there c.args.key.now) ∙ sym c.in_ok-again.ensures.told ∙ c.if-again.false))

pub returns-in-Err-clause-err : goal.returns-in-Err-clause-err
returns-in-Err-clause-err c =
    rw (← c.self.view_is)
    (subst (λ (order : List Key). worklist_of order c.self.inside.next ≡ worklist_of c.self.inside.order c.self.inside.next) (sym c.in-Err.ensures.err) refl)

pub invariant_of-self-in-Err : goal.invariant_of-self-in-Err
invariant_of-self-in-Err c =
    subst₂ (λ (order : List Key) (met : map.FinMap key_cmp ⊤). IsWorklist order met c.self.inside.next) (sym c.in-Err.ensures.err) (sym c.remove.ensures.stays)
    (subst (λ (met : map.FinMap key_cmp ⊤). IsWorklist c.self.inside.order (map.remove met c.args.key.now) c.self.inside.next) (sym c.in_ok-again.ensures.ok)
    (noted_back c.self.inside.order c.self.inside.met c.self.inside.next c.args.key.now c.self.invariant
    (sym (c.self.invariant.there c.args.key.now) ∙ sym c.in_ok-again.ensures.told ∙ c.if-again.false)))
