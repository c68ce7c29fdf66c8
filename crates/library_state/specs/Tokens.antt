-- The tokens of a library, by their secrets. Our own.
use Rattle.std.specs.Prelude.{ℕ, Bool, List, map}
use Rattle.std.specs.List.{list_any}
use Rattle.std.specs.Str.{bytes_eq}
use Rattle.library_state.specs.declared.token.Token.{Token}

-- the secrets, in the order of the tokens
abbrev pub secrets_of : List Token → List (List ℕ)
secrets_of tokens = map (λ token. token.secret) tokens

-- whether a token has this secret
abbrev pub is_taken : List Token → List ℕ → Bool
is_taken tokens secret = list_any (λ token. bytes_eq secret token.secret) tokens
