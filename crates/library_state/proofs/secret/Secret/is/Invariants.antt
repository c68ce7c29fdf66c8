-- The bytes so far are equal, or not.
use Rattle.std.proofs.Common.{◌≡◌, take}
use Rattle.std.specs.Str.{bytes_eq}
use Rattle.library_state.proofs.secret.Secret.is.Given as goal

abbrev pub invariant-loop-place : goal.invariant-loop-place
invariant-loop-place l = l.same ≡ bytes_eq (take l.place l.self-inside.0) (take l.place l.other-inside.0)
