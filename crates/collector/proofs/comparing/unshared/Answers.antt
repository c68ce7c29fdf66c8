-- One key more is opened; where none waits, what was found is what is needed.
use Rattle.std.proofs.Common.{Err, Ok, rules, subst, sym}
use Rattle.tree_walk.proofs.ReadsLemmas.{reads_then, told_after}
use Rattle.collector.specs.Comparing.{ListsUnshared}
use Rattle.collector.proofs.ComparingLemmas.{settled_lists}
use Rattle.collector.proofs.MarkingLemmas.{reads_fails}
use Rattle.collector.proofs.WorklistLemmas.{first_is, none_first}
use Rattle.collector.proofs.comparing.unshared.Goals as goal

pub returns-in-Err-clause-cause : goal.returns-in-Err-clause-cause
returns-in-Err-clause-cause g c = λ objects all told with complete. tt

pub loop-init : goal.loop-init
loop-init g c = record {
  reads = search rules;
  settled = λ objects all told with complete. c.in-Ok.ensures.value objects all complete;
}

pub open-requires : goal.open-requires
open-requires g c = let first = first_is c.loop.compared.waiting c.in-Some.key c.in-Some.ensures.value in record { ready = record { rest = first.0; first = first.1 } }

pub loop-preserved : goal.loop-preserved
loop-preserved g c =
    let inv = c.loop.invariant in
    record {
      reads = reads_then tt (Ok tt) inv.reads c.in-Ok-open.ensures.stays;
      settled = λ objects all told with complete.
          c.in-Ok-open.ensures.value objects all (told_after inv.reads told) with c.args.older c.args.newer complete (inv.settled objects all told with complete);
    }

pub returns-in-None-clause-value : goal.returns-in-None-clause-value
returns-in-None-clause-value g c = λ objects all told with complete.
    subst (ListsUnshared objects all c.args.older c.args.newer) (sym c.into_keys.ensures.value)
    (settled_lists objects all c.args.older c.args.newer c.loop.compared with.keeps complete (c.loop.invariant.settled objects all told with complete)
    (none_first c.loop.compared.waiting c.in-None.ensures.value))

pub returns-in-Err-open-clause-cause : goal.returns-in-Err-open-clause-cause
returns-in-Err-open-clause-cause g c = λ objects all told with complete.
    c.in-Err-open.ensures.cause objects all (told_after c.loop.invariant.reads told) with c.args.older c.args.newer complete (c.loop.invariant.settled objects all told with complete)

pub returns-in-Err-open-clause-stays : goal.returns-in-Err-open-clause-stays
returns-in-Err-open-clause-stays g c =
    reads_then tt (Err c.in-Err-open.fault) c.loop.invariant.reads (reads_fails c.in-Err-open.fault c.in-Err-open.ensures.stays)

pub returns-clause-cause : goal.returns-clause-cause
returns-clause-cause g c = λ objects all told with complete. tt
