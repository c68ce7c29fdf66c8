-- None of the tokens so far has the secret.
use Rattle.std.proofs.Common.{◌≡◌, take, None, Some}
use Rattle.library_rules.specs.Calls.{token_of}
use Rattle.library_server.proofs.looking.has_token.Given as goal

abbrev pub invariant-loop-place : goal.invariant-loop-place
invariant-loop-place g l = token_of (take l.place l.depot.state.tokens) (Some l.secret) ≡ None
