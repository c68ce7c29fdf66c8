-- The head's own directory changes nothing.
use Rattle.std.proofs.Common.{Option, List, ℕ, IfOk, inl, refl, subst, sym}
use Rattle.tree_merge.specs.LevelMerge.{MakesFrom}
use Rattle.tree_merge.proofs.level_merge.take_or_make.Goals as goal

pub returns-in-Some-clause-ok : goal.returns-in-Some-clause-ok
returns-in-Some-clause-ok c =
    subst (λ (o : Option (List ℕ)). MakesFrom o c.args.nodes c.args.kept.now c.args.paths c.args.work.now c.args.work.now c.in-Some.id) (sym c.in-Some.is) (refl, refl)

pub returns-in-None-clause-ok : goal.returns-in-None-clause-ok
returns-in-None-clause-ok c =
    subst (λ (o : Option (List ℕ)). IfOk c.make_directory.result (λ id. MakesFrom o c.args.nodes c.args.kept.now c.args.paths c.args.work.now c.make_directory.new.work id)) (sym c.in-None.is) c.make_directory.ensures.ok

pub returns-in-Some-clause-cause : goal.returns-in-Some-clause-cause
returns-in-Some-clause-cause c named id is = inl is
