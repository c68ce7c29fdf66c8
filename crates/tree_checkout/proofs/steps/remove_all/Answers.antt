use Rattle.std.proofs.Common.{◌∙◌, refl, arith}
use Rattle.tree_checkout.proofs.RemovalLemmas.{found_all, found_more, look_of_path, removed_all, removed_more, removed_same, removed_stop}
use Rattle.tree_checkout.proofs.TouchLemmas.{touches_none, touches_then}
use Rattle.tree_checkout.proofs.steps.remove_all.Goals as goal

pub loop-path-preserved : goal.loop-path-preserved
loop-path-preserved g c = record {
  told = λ c' told. removed_more c.args.doomed.now c.loop-path.path-index c.path-item.result c' _ _ (omega arith) c.path-item.is (c.loop-path.invariant.told c' told) c.in-Ok.ensures.value;
  found = λ c' told once.
      found_more c.args.cuts c.args.scan.now c.args.doomed.now c.loop-path.path-index c.path-item.result c' _ (omega arith) c.path-item.is once
      (c.loop-path.invariant.found c' told once) (c.loop-path.invariant.told c' told) c.in-Ok.ensures.found;
  faults = c.in-Ok.ensures.faults ∙ c.loop-path.invariant.faults;
  touches = touches_then c.args.cuts c.args.scan.now _ _ _ c.loop-path.invariant.touches c.in-Ok.ensures.touches;
}

pub returns-in-Err-clause-err : goal.returns-in-Err-clause-err
returns-in-Err-clause-err g c =
    removed_stop c.args.doomed.now c.loop-path.path-index c.path-item.result _ _ _ (omega arith) c.path-item.is c.loop-path.invariant.told c.args.scan.now c.args.cuts c.in-Err.fault
    c.in-Err.ensures.untouched c.in-Err.ensures.cause c.in-Err.ensures.value

pub returns-in-Err-clause-cause : goal.returns-in-Err-clause-cause
returns-in-Err-clause-cause g c = look_of_path c.args.cuts _ c.path-item.result _ c.in-Err.fault c.in-Err.ensures.cause

pub returns-clause-ok : goal.returns-clause-ok
returns-clause-ok g c = removed_all c.args.doomed.now c.loop-path.path-index _ _ (omega arith) c.loop-path.invariant.told

pub returns-in-Err-clause-same : goal.returns-in-Err-clause-same
returns-in-Err-clause-same g c = λ c' told once looks.
    removed_same c.args.cuts c.args.scan.now c.args.doomed.now c.loop-path.path-index c.path-item.result c' _ c.in-Err.fault (omega arith) c.path-item.is once looks
    (c.loop-path.invariant.told c' told) c.in-Err.ensures.cause

pub returns-clause-found : goal.returns-clause-found
returns-clause-found g c = λ c' told once.
    found_all c.args.cuts c.args.scan.now c.args.doomed.now c.loop-path.path-index c' (omega arith) (c.loop-path.invariant.found c' told once)

pub loop-path-init : goal.loop-path-init
loop-path-init g c = record {
  told = λ c' told. told;
  found = λ c' told once. tt;
  faults = refl;
  touches = touches_none c.args.cuts c.args.scan.now _ _ refl;
}

pub returns-in-Err-clause-touches : goal.returns-in-Err-clause-touches
returns-in-Err-clause-touches g c = touches_then c.args.cuts c.args.scan.now _ _ _ c.loop-path.invariant.touches c.in-Err.ensures.touches
