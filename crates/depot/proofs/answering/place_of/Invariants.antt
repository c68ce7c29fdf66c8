-- No token so far has the secret.
use Rattle.std.proofs.Common.{◌≡◌, ℕ, ◌<◌, false, slice_index_or}
use Rattle.std.specs.Str.{bytes_eq}
use Rattle.library_state.specs.declared.token.Token.{Token}
use Rattle.depot.proofs.answering.place_of.Given as goal

abbrev pub invariant-loop-place : goal.invariant-loop-place
invariant-loop-place l = (k : ℕ) (d : Token) → k < l.place → bytes_eq l.secret (slice_index_or l.tokens k d).secret ≡ false
