-- The workers so far have the first passes and the first ears, in order.
use Rattle.std.proofs.Common.{◌≡◌, ◌+◌, ◌≤◌, All, ◌++◌, [], map, reverse, vec_capacity, vec_len}
use Rattle.library_server.proofs.workers.seat.Given as goal

abbrev pub invariant-loop-ear : goal.invariant-loop-ear
invariant-loop-ear g l = record {
  size : vec_len l.passes ≡ vec_len l.ears;
  room : vec_len l.workers + vec_len l.ears ≤ vec_capacity l.workers;
  pass_is : map (λ w. w.pass) l.workers.items ++ reverse l.passes.items ≡ reverse l.initial.passes.items;
  ear_is : map (λ w. w.ear) l.workers.items ++ reverse l.ears.items ≡ reverse l.initial.ears.items;
  none : All (λ w. w.served.items ≡ []) l.workers.items;
}

abbrev pub decreases-loop-ear : goal.decreases-loop-ear
decreases-loop-ear g l = vec_len l.ears
