use Rattle.std.proofs.Common.{◌∙◌, sym, ap, subst, inl, inr}
use Rattle.http_front.specs.TargetFront.{IsBroken, IsTextFront, has_space}
use Rattle.http_front.proofs.TargetFrontLemmas.{broken_overflows, still_may}
use Rattle.http_front.proofs.target_front.breaks_target.Goals as goal

pub returns-then-has_space-clause-may : goal.returns-then-has_space-clause-may
returns-then-has_space-clause-may c _ =
    let spaced = ap has_space (sym c.after_space-target.ensures) ∙ sym c.has_space.ensures ∙ c.if-has_space.true in
    still_may c.args.front.now (inl spaced)

pub returns-clause-broken : goal.returns-clause-broken
returns-clause-broken c broken =
    let alone = ap has_space (sym c.after_space-target.ensures) ∙ sym c.has_space.ensures ∙ c.if-has_space.false in
    broken_overflows c.args.front.now alone (subst IsBroken c.after_space-target.ensures (c.is_broken.ensures.broken broken))

pub returns-clause-may : goal.returns-clause-may
returns-clause-may c whole =
    still_may c.args.front.now (inr (subst IsTextFront c.after_space-target.ensures (c.is_broken.ensures.may whole)))
