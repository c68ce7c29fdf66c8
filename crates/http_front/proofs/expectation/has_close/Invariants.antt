use Rattle.std.proofs.Common.{◌≡◌, ◌≤◌, drop, slice_range, codes}
use Rattle.httparse.specs.Grammar.{trim_ows}
use Rattle.http_front.specs.Fields.{has_element, is_word}
use Rattle.http_front.proofs.ElementLemmas.{passes}
use Rattle.http_front.proofs.expectation.has_close.Given as goal

abbrev pub invariant-loop-i : goal.invariant-loop-i
invariant-loop-i l = record {
  ordered : l.start ≤ l.i;
  rest : passes (λ element. is_word (codes "close") (trim_ows element)) (slice_range l.value l.start l.i) (drop l.i l.value)
      ≡ has_element (codes "close") l.value;
}
