use Rattle.std.proofs.Common.{ap, sym, arith, ◌∙◌}
use Rattle.std.specs.List.{list_any}
use Rattle.http_front.proofs.ElementLemmas.{grown_none, step_comma, step_byte, test_fails}
use Rattle.http_front.proofs.expectation.has_close.Goals.{then-byte-eq44+else-is_close, else-byte-eq44}
use Rattle.http_front.proofs.expectation.has_close.Goals as goal

pub loop-i-init : goal.loop-i-init
loop-i-init c = record { ordered = omega arith; rest = ap (list_any _) (grown_none c.args.value.now) }

pub loop-i-preserved : goal.loop-i-preserved
loop-i-preserved c =
    elim c.if-byte-eq44.branch [
      | then-byte-eq44+else-is_close w ↦ record {
        ordered = omega arith;
        rest = rw w.start-is (step_comma _ c.args.value.now c.loop-i.start c.loop-i.i _ c.loop-i-test.true w.if-byte-eq44.true
            (sym w.is_close.ensures ∙ w.if-is_close.false) c.loop-i.invariant.rest);
      }
      | else-byte-eq44 w ↦ record {
        ordered = omega arith;
        rest = rw w.start-is (step_byte _ c.args.value.now c.loop-i.start c.loop-i.i _ c.loop-i.invariant.ordered c.loop-i-test.true
            (test_fails _ _ w.if-byte-eq44.false) c.loop-i.invariant.rest);
      }
    ]
