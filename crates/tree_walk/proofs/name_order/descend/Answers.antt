-- One entry more, above those behind it; at the end all.
use Rattle.std.proofs.Common.{◌≡◌, ◌+◌, ◌-◌, ◌∙◌, ap, arith, drop, length, subst, sym, true, ℕ}
use Rattle.std.proofs.lemmas.List.{take_rest}
use Rattle.tree_walk.specs.NameOrder.{descending, is_above}
use Rattle.tree_walk.proofs.NameOrderLemmas.{more_descends, none_descends}
use Rattle.tree_walk.proofs.name_order.descend.Goals as goal

pub loop-done-init : goal.loop-done-init
loop-done-init c = none_descends c.args.entries.now (length c.args.entries.now - 0) (omega arith)

pub loop-done-preserved : goal.loop-done-preserved
loop-done-preserved c =
    let at : ℕ = length c.args.entries.now - 1 - c.loop-done.done in
    let here : length c.args.entries.now - (c.loop-done.done + 1) ≡ at = omega arith in
    let behind : length c.args.entries.now - c.loop-done.done ≡ at + 1 = omega (arith, c.loop-done-test.true) in
    subst (λ (n : ℕ). descending (drop n c.args.entries.now) ≡ true) (sym here)
    (more_descends c.args.entries.now at c.index-entries-at.result (omega (arith, c.loop-done-test.true)) c.index-entries-at.is
    (ap (is_above c.index-entries-at.result) (sym (take_rest c.args.entries.now (at + 1))) ∙ sym c.is_above.ensures.value ∙ c.if-not-is_above.false)
    (subst (λ (n : ℕ). descending (drop n c.args.entries.now) ≡ true) behind c.loop-done.invariant))

pub returns : goal.returns
returns c = record {
  value = λ is.
      let none : length c.args.entries.now - c.loop-done.done ≡ 0 = omega arith in
      subst (λ (n : ℕ). descending (drop n c.args.entries.now) ≡ true) none c.loop-done.invariant;
}
