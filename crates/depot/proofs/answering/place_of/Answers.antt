-- Where the loop ends, no token has the secret.
use Rattle.std.proofs.Common.{arith}
use Rattle.depot.proofs.PlaceLemmas.{place_absent}
use Rattle.depot.proofs.answering.place_of.Goals as goal

pub returns-clause-absent : goal.returns-clause-absent
returns-clause-absent c =
    place_absent c.args.tokens.now c.args.secret.now (λ k d below. c.loop-place.invariant k d (omega (arith, below, c.loop-place-test.false)))
