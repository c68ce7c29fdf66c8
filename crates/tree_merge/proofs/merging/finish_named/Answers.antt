-- Then too many paths, then a directory that can't be stored.
use Rattle.std.proofs.Common.{◌≡◌, ℕ, List, refl, sym, subst, arith, Option, None, Some, Err, inl}
use Rattle.tree_merge.specs.DirectoryMerge.{FinishesSo, refusal_of}
use Rattle.tree_merge.specs.Merging.{IsCaused}
use Rattle.tree_merge.specs.TreeBuilding.{IsCollision}
use Rattle.tree_merge.specs.declared.merging.MergeFault.{MergeFault}
use Rattle.tree_merge.specs.declared.work.Stop.{Stop}
use Rattle.tree_merge.specs.declared.work.Stop.TheVariants as why
use Rattle.tree_merge.proofs.MergingLemmas.{stopped_cause, stopped_so}
use Rattle.tree_merge.proofs.merging.finish_named.Goals as goal

pub returns-then-paths-clause-value : goal.returns-then-paths-clause-value
returns-then-paths-clause-value c =
    let many = c.if-paths.true in (
      refl,
      c.or_nothing-id.ensures.value.1,
      inl (omega (arith, many)),
    )

pub returns-in-Some-clause-value : goal.returns-in-Some-clause-value
returns-in-Some-clause-value c =
    let few = c.if-paths.false in
    let size = c.or_nothing-id.ensures.value.1 in
    subst (λ (f : MergeFault). FinishesSo c.args.part (record { made = c.args.made; copies = c.args.copies; long = None; stop = c.args.stop }) (Err f)) (sym c.refusal_of.ensures.value)
    (subst (λ (o : Option Stop). FinishesSo c.args.part (record { made = c.args.made; copies = c.args.copies; long = None; stop = o }) (Err (refusal_of c.in-Some.found c.or_nothing-id.result.paths))) (sym c.in-Some.is)
    (stopped_so c.args.part c.args.made c.args.copies c.in-Some.found c.or_nothing-id.result.paths size (omega (arith, few, size))))

pub returns-in-Some-clause-cause : goal.returns-in-Some-clause-cause
returns-in-Some-clause-cause c cause =
    subst IsCaused (sym c.refusal_of.ensures.value)
    (stopped_cause c.in-Some.found c.or_nothing-id.result.paths (subst (λ (o : Option Stop). (id : List ℕ) → o ≡ Some (why.Taken id) → IsCollision id) c.in-Some.is cause))

pub returns-in-Ok-clause-value : goal.returns-in-Ok-clause-value
returns-in-Ok-clause-value c =
    let few = c.if-paths.false in
    let size = c.or_nothing-id.ensures.value.1 in (
      refl,
      omega (arith, few, size),
      c.in-None.is,
      λ i. record { root = c.or_nothing-id.ensures.value.0 i; made = c.args.made; conflicts = c.in-Ok.ensures.value i },
    )
