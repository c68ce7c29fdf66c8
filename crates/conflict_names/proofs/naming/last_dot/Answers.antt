use Rattle.std.proofs.Common.{◌-◌, ◌<◌, length, sym, arith}
use Rattle.conflict_names.proofs.ExtensionLemmas.{ext_at-dot, ext_at-none}
use Rattle.conflict_names.proofs.naming.last_dot.Goals as goal

pub returns-then-name-place-eq46-clause-value : goal.returns-then-name-place-eq46-clause-value
returns-then-name-place-eq46-clause-value c =
    let some : 0 < c.loop-place.place - 1 = omega arith in
    let fits : c.loop-place.place - 1 < length c.args.name.now = omega arith in
    sym (ext_at-dot c.args.name.now (c.loop-place.place - 1) some fits c.if-name-place-eq46.true (λ k low high. c.loop-place.invariant k (omega arith) high))

pub returns-clause-value : goal.returns-clause-value
returns-clause-value c = sym (ext_at-none c.args.name.now (λ k low high. c.loop-place.invariant k (omega arith) high))
