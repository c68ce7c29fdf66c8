-- One commit more has no fault, or the first fault is its.
use Rattle.std.proofs.Common.{◌+◌, Ok, ap, arith, drop, drop_of_length-le, refl, subst, sym, ◌∙◌, rules}
use Rattle.tree_walk.specs.KnownTrees.{Fits, KnownView}
use Rattle.tree_walk.specs.Reading.{IsDue}
use Rattle.tree_walk.proofs.KnownTreesLemmas.{fits_nothing}
use Rattle.tree_walk.proofs.ReadsLemmas.{reads_then, told_after, told_before}
use Rattle.tree_walk.proofs.StepsLemmas.{next_entry}
use Rattle.collector.specs.Marking.{first_fault}
use Rattle.collector.proofs.MarkingLemmas.{fault_goes_on, fault_stops}
use Rattle.collector.proofs.marking.check_all.Goals as goal

pub loop-commit-init : goal.loop-commit-init
loop-commit-init g c = record {
  reads = search rules;
  fits = λ objects told. subst (λ (known : KnownView). Fits objects known) (sym c.new-known.ensures.value) (fits_nothing objects);
  left = λ objects told. refl;
}

pub check-requires : goal.check-requires
check-requires g c = record { known = c.loop-commit.invariant.fits }

pub loop-commit-preserved : goal.loop-commit-preserved
loop-commit-preserved g c =
    let inv = c.loop-commit.invariant in
    record {
      reads = reads_then tt (Ok tt) inv.reads c.in-Ok.ensures.stays;
      fits = λ objects told. c.in-Ok.ensures.known objects (told_before c.in-Ok.ensures.stays told);
      left = λ objects told.
          inv.left objects told
          ∙ ap (first_fault objects) (next_entry c.args.commits.now c.loop-commit.commit-index c.commit-item.result (omega arith) c.commit-item.is)
          ∙ fault_goes_on objects c.commit-item.result (drop (c.loop-commit.commit-index + 1) c.args.commits.now)
          (c.in-Ok.ensures.value objects (told_after inv.reads told)).0;
    }

pub returns-in-Err-clause-value : goal.returns-in-Err-clause-value
returns-in-Err-clause-value g c = λ objects told.
    let inv = c.loop-commit.invariant in
    subst (λ due. IsDue objects due c.in-Err.fault)
    (sym (inv.left objects told
    ∙ ap (first_fault objects) (next_entry c.args.commits.now c.loop-commit.commit-index c.commit-item.result (omega arith) c.commit-item.is)))
    (fault_stops objects c.commit-item.result (drop (c.loop-commit.commit-index + 1) c.args.commits.now) c.in-Err.fault
    (c.in-Err.ensures.value objects (told_after inv.reads told)))

pub returns-clause-value : goal.returns-clause-value
returns-clause-value g c = λ objects told. (
  c.loop-commit.invariant.left objects told
      ∙ ap (first_fault objects) (drop_of_length-le c.args.commits.now (omega arith)),
  tt,
)
