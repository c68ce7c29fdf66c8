use Rattle.std.proofs.Common.{◌∙◌, refl, arith}
use Rattle.tree_checkout.proofs.StepsLemmas.{writes_end, writes_more, writes_start, writes_stop}
use Rattle.tree_checkout.proofs.UnchangedLemmas.{unwritten_all, unwritten_more, writes_same}
use Rattle.tree_checkout.proofs.TouchLemmas.{touches_none, touches_then}
use Rattle.tree_checkout.proofs.steps.write_all.Goals as goal

pub loop-write-init : goal.loop-write-init
loop-write-init g c = record {
  found = λ c' told once. tt;
  faults = refl;
  touches = touches_none c.args.cuts c.args.scan.now _ _ refl;
  peer = refl;
  written = writes_start c.args.source.now c.args.cuts _ _ _ _ refl;
}

pub loop-write-preserved : goal.loop-write-preserved
loop-write-preserved g c = record {
  found = λ c' told once.
      unwritten_more c.args.source.now c.args.writes.now c.loop-write.write-index c.write-item.result c.args.scan.now c.args.cuts _ _ _ _ _ _ c' (omega arith)
      c.write-item.is c.loop-write.invariant.written told once (c.loop-write.invariant.found c' told once) c.in-Ok.ensures.found;
  faults = c.in-Ok.ensures.faults ∙ c.loop-write.invariant.faults;
  touches = touches_then c.args.cuts c.args.scan.now _ _ _ c.loop-write.invariant.touches c.in-Ok.ensures.touches;
  peer = c.in-Ok.ensures.stays ∙ c.loop-write.invariant.peer;
  written =
      writes_more c.args.source.now c.args.writes.now c.loop-write.write-index c.write-item.result c.args.cuts _ _ _ _ _ _ _ _ _ (omega arith) c.write-item.is
      c.loop-write.invariant.written c.in-Ok.ensures.ok;
}

pub returns-in-Err-clause-err : goal.returns-in-Err-clause-err
returns-in-Err-clause-err g c =
    writes_stop c.args.source.now c.args.writes.now c.loop-write.write-index c.write-item.result c.args.scan.now c.args.cuts _ _ _ _ _ _ _ _ c.in-Err.fault (omega arith) c.write-item.is
    c.loop-write.invariant.written c.in-Err.ensures.err

pub returns-clause-ok : goal.returns-clause-ok
returns-clause-ok g c = writes_end c.args.source.now c.args.writes.now c.loop-write.write-index c.args.cuts _ _ _ _ _ _ (omega arith) c.loop-write.invariant.written

pub returns-in-Err-clause-same : goal.returns-in-Err-clause-same
returns-in-Err-clause-same g c = λ c' told once looks.
    writes_same c.args.source.now c.args.writes.now c.loop-write.write-index c.write-item.result c.args.scan.now c.args.cuts _ _ _ _ _ _ _ _ c.in-Err.fault c' (omega arith) c.write-item.is
    c.loop-write.invariant.written c.in-Err.ensures.err told once looks

pub returns-clause-found : goal.returns-clause-found
returns-clause-found g c = λ c' told once.
    unwritten_all c.args.writes.now c.loop-write.write-index c.args.scan.now c.args.cuts c' (omega arith) (c.loop-write.invariant.found c' told once)

pub returns-in-Err-clause-touches : goal.returns-in-Err-clause-touches
returns-in-Err-clause-touches g c = touches_then c.args.cuts c.args.scan.now _ _ _ c.loop-write.invariant.touches c.in-Err.ensures.touches
