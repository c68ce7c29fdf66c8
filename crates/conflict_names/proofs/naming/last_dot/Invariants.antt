use Rattle.std.proofs.Common.{◌≢◌, ◌≤◌, ◌<◌, ℕ, length, get_or}
use Rattle.conflict_names.proofs.naming.last_dot.Given as goal

abbrev pub invariant-loop-place : goal.invariant-loop-place
invariant-loop-place l = (k : ℕ) → l.place ≤ k → k < length l.name → get_or l.name k 0 ≢ 46
