-- One byte more.
use Rattle.std.proofs.Common.{arith}
use Rattle.library_state.proofs.SecretLemmas.{same_so_far}
use Rattle.library_state.proofs.secret.Secret.is.Goals as goal

pub loop-place-preserved : goal.loop-place-preserved
loop-place-preserved c =
    same_so_far c.loop-place.place c.self.inside.0 c.other.inside.0 c.loop-place.same (omega arith) (omega arith) c.loop-place.invariant
