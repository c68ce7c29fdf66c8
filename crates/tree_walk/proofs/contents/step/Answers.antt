-- The next block is passed over, or what is in memory of both is compared.
use Rattle.std.proofs.Common.{subst₂, refl, List, ℕ, Some, None}
use Rattle.tree_walk.specs.Files.{Fronts}
use Rattle.tree_walk.proofs.ContentsLemmas.{step_on, step_over, step_apart}
use Rattle.tree_walk.proofs.contents.step.Goals as goal

pub returns-in-Some-same_front-clause-value : goal.returns-in-Some-same_front-clause-value
returns-in-Some-same_front-clause-value g c = λ objects told ready. step_on objects c.args.left.now c.args.right.now c.in-Some-same_front.count ready
    (subst₂ (λ (a b : List ℕ). Fronts a b (Some c.in-Some-same_front.count)) c.rest.ensures.value c.rest-2.ensures.value c.in-Some-same_front.ensures.value)

pub returns-in-None-clause-value : goal.returns-in-None-clause-value
returns-in-None-clause-value g c = λ objects told ready. step_apart objects c.args.left.now c.args.right.now
    (subst₂ (λ (a b : List ℕ). Fronts a b None) c.rest.ensures.value c.rest-2.ensures.value c.in-None.ensures.value)

pub returns-in-Some-clause-value : goal.returns-in-Some-clause-value
returns-in-Some-clause-value g c = λ objects told ready.
    step_over objects c.args.left.now c.args.right.now (record c.args.left.now { blocks = c.in-Some.left_rest }) (record c.args.right.now { blocks = c.in-Some.right_rest }) ready c.in-Some.ensures.value
    refl refl refl refl refl refl
