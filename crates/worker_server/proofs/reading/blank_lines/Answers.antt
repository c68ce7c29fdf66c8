-- A line more is passed over.
use Rattle.std.proofs.Common.{arith, ◌≡◌, ◌-◌, ◌≤◌, ℕ, List, drop, length, subst, take}
use Rattle.std.proofs.lemmas.List.{length-drop, take_all}
use Rattle.worker_server.specs.RequestSteps.{IsEndSize}
use Rattle.worker_server.proofs.BlankLemmas.{blank_line}
use Rattle.worker_server.proofs.reading.blank_lines.Goals as goal

whole : (at : ℕ) (bytes : List ℕ) → take (length bytes - at) (drop at bytes) ≡ drop at bytes
whole at bytes = take_all (length bytes - at) (drop at bytes) (subst (λ n. length (drop at bytes) ≤ n) (length-drop at bytes) (same (length (drop at bytes))))
  where
    same : (n : ℕ) → n ≤ n
    same n = omega arith

pub loop-from-preserved : goal.loop-from-preserved
loop-from-preserved c = record {
  blank = blank_line c.loop-from.at c.end_size-size.result c.args.front.now c.loop-from.invariant.blank
      (subst (λ (z : List ℕ). IsEndSize z c.end_size-size.result) (whole c.loop-from.at c.args.front.now) c.end_size-size.ensures.value);
}
