use Rattle.std.proofs.Common.{refl}
use Rattle.tree_checkout.proofs.CheckingOutLemmas.{checks_out, stops_removing, stops_writing}
use Rattle.tree_checkout.proofs.TouchLemmas.{touches_then}
use Rattle.tree_checkout.proofs.checking_out.checkout.Goals as goal

pub returns-in-Err-clause-err : goal.returns-in-Err-clause-err
returns-in-Err-clause-err g c =
    stops_removing c.args.source.now c.args.doomed.now c.args.writes.now c.args.scan.now c.args.cuts _ _ _ (g.F.Folder.told c.args.folder.now) _ c.in-Err.fault refl
    c.in-Err.ensures.err c.in-Err.ensures.cause

pub returns-in-Err-write_all-clause-err : goal.returns-in-Err-write_all-clause-err
returns-in-Err-write_all-clause-err g c =
    stops_writing c.args.source.now c.args.doomed.now c.args.writes.now c.args.scan.now c.args.cuts _ _ _ _ _ c.in-Err-write_all.fault c.in-Ok.ensures.ok
    c.in-Err-write_all.ensures.err

pub returns-in-Err-clause-same : goal.returns-in-Err-clause-same
returns-in-Err-clause-same g c = λ c' told once looks others unwritten. c.in-Err.ensures.same c' told once looks

pub returns-clause-ok : goal.returns-clause-ok
returns-clause-ok g c =
    checks_out c.args.source.now c.args.doomed.now c.args.writes.now c.args.scan.now c.args.cuts _ _ _ _ _ _ _ c.new-owns.ensures.value c.in-Ok.ensures.ok
    c.in-Ok-write_all.ensures.ok

pub returns-in-Err-write_all-clause-same : goal.returns-in-Err-write_all-clause-same
returns-in-Err-write_all-clause-same g c = λ c' told once looks others unwritten. c.in-Err-write_all.ensures.same _ (c.in-Ok.ensures.ok.left c' told) others unwritten

pub returns-clause-found : goal.returns-clause-found
returns-clause-found g c = λ c' told once others.
    (c.in-Ok.ensures.found c' told once, c.in-Ok-write_all.ensures.found _ (c.in-Ok.ensures.ok.left c' told) others)

pub returns-in-Err-write_all-clause-touches : goal.returns-in-Err-write_all-clause-touches
returns-in-Err-write_all-clause-touches g c = touches_then c.args.cuts c.args.scan.now _ _ _ c.in-Ok.ensures.touches c.in-Err-write_all.ensures.touches

pub returns-clause-touches : goal.returns-clause-touches
returns-clause-touches g c = touches_then c.args.cuts c.args.scan.now _ _ _ c.in-Ok.ensures.touches c.in-Ok-write_all.ensures.touches
