use Rattle.std.proofs.Common.{◌≡◌, drop}
use Rattle.http_front.specs.TargetFront.{after_space}
use Rattle.http_front.proofs.target_front.after_space.Given as goal

abbrev pub invariant-loop-i : goal.invariant-loop-i
invariant-loop-i l = after_space (drop l.i l.bytes) ≡ after_space l.bytes
