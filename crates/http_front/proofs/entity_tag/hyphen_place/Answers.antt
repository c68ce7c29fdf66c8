use Rattle.std.proofs.Common.{◌≡◌, ◌∙◌, ◌==◌, sym, arith, below_more, eq-eqb, length}
use Rattle.std.proofs.lemmas.List.Sums.{position_or_len_is}
use Rattle.http_front.proofs.ElementLemmas.{test_fails}
use Rattle.http_front.proofs.entity_tag.hyphen_place.Goals as goal

pub loop-i-preserved : goal.loop-i-preserved
loop-i-preserved c = below_more _ _ c.loop-i.invariant (test_fails _ _ c.if-c-eq45.false)

pub returns-then-c-eq45-clause-value : goal.returns-then-c-eq45-clause-value
returns-then-c-eq45-clause-value c =
    sym (position_or_len_is (λ b. b == 45) c.args.text.now c.loop-i.i 0 (omega arith) c.loop-i.invariant (λ _. eq-eqb _ _ c.if-c-eq45.true))

pub returns-clause-value : goal.returns-clause-value
returns-clause-value c =
    let all : c.loop-i.i ≡ length c.args.text.now = omega arith in
    sym all ∙ sym (position_or_len_is (λ b. b == 45) c.args.text.now c.loop-i.i 0 (omega arith) c.loop-i.invariant (λ inside. absurd (omega arith)))
