-- Tokens of a library that is kept: when one is refused. Our own. Read token_refusal first.
use Rattle.library_state.specs.declared.state.TheConstants.{MAX_TOKENS}
use Rattle.std.specs.Prelude.{ℕ, Bool, false, nat_le, if◌then◌else◌, List, length, Option, None, Some, option_map, Result, Ok, Err, ⊤}
use Rattle.std.specs.List.{slice_get}
use Rattle.library_state.specs.Tokens.{is_taken}
use Rattle.library_state.specs.declared.right.Right.{Right}
use Rattle.library_state.specs.declared.token.Token.{Token}
use Rattle.object_store.specs.Store.{is_free, is_of_shelf}
use Rattle.object_store.specs.declared.error.StoreFault.{StoreFault}
pub use Rattle.depot.specs.NextState.{with_new_token}
use Rattle.depot.specs.declared.error.TokenFault.{TokenFault}
use Rattle.depot.specs.declared.error.TokenFault.TheVariants.{SecretTaken, Full, Store}

-- why a token isn't added: another one has its secret, or there are MAX_TOKENS
abbrev pub token_refusal : List Token → List ℕ → Option TokenFault
token_refusal tokens secret =
    if is_taken tokens secret then Some SecretTaken
    else if nat_le MAX_TOKENS (length tokens) then Some Full
    else None

-- the faults that may come in any other's place: the store's want of memory and its counted failure
abbrev pub is_token_free : TokenFault → Bool
is_token_free SecretTaken = false
is_token_free Full = false
is_token_free (Store fault) = is_free fault

-- the fault that the shelf counts
abbrev pub is_token_counted : TokenFault → Bool
is_token_counted SecretTaken = false
is_token_counted Full = false
is_token_counted (Store fault) = is_of_shelf fault

-- what the store answered, if it was asked
abbrev pub store_answer : Result ⊤ TokenFault → Option (Result ⊤ StoreFault)
store_answer (Ok done) = Some (Ok done)
store_answer (Err (Store fault)) = Some (Err fault)
store_answer (Err SecretTaken) = None
store_answer (Err Full) = None

-- the secret and the right of the token at a place
abbrev pub token_shown : List Token → ℕ → Option (List ℕ × Right)
token_shown tokens place = option_map (λ token. (token.secret, token.right)) (slice_get tokens place)
