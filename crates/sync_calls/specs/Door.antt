-- Who may ask a hall, by what it copied of a library. Our own. Read IsDoorOf and admits first, then admitted.
use Rattle.std.specs.Prelude.{◌≡◌, ℕ, Bool, false, nat_le, if◌then◌else◌, List, [], ◌∷◌, map as map_list, Option, None, Some}
use Rattle.std.specs.Str.{bytes_eq}
use Rattle.library_rules.specs.Calls.{right_for, token_of}
use Rattle.library_state.specs.Rights.{right_number}
use Rattle.library_state.specs.declared.call.Act.{Act}
use Rattle.library_state.specs.declared.right.Right.{Right}
use Rattle.library_state.specs.declared.token.Token.{Token}
use Rattle.depot.specs.Answering.{permits}
use Rattle.depot.specs.CollectionTurns.{is_owner}
use Rattle.depot.specs.DepotView.{DepotView}
use Rattle.sync_calls.specs.declared.door.Door.{Door}
use Rattle.sync_calls.specs.declared.door.Holder.{Holder}

-- the secrets and rights of tokens, in their order
abbrev pub holder_of : Token → Holder
holder_of token = record { secret = token.secret; right = token.right }

abbrev pub holders_of : List Token → List Holder
holders_of tokens = map_list holder_of tokens

-- a door has what the library had as the hall began
pub record IsDoorOf {S : Type 0} (door : Door) (depot : DepotView S) : Type 0 where
  pub lib : door.lib ≡ depot.state.lib
  pub opening : door.opening ≡ depot.state.opening
  pub holders : door.holders ≡ holders_of depot.state.tokens

-- the right of the first holder of the secret
abbrev pub right_in : List Holder → List ℕ → Option Right
right_in [] secret = None
right_in (holder ∷ holders) secret = if bytes_eq secret holder.secret then Some holder.right else right_in holders secret

abbrev pub right_shown : List Holder → Option (List ℕ) → Option Right
right_shown holders None = None
right_shown holders (Some secret) = right_in holders secret

-- whether it is enough for the act
abbrev pub is_enough : Act → Option Right → Bool
is_enough act None = false
is_enough act (Some right) = nat_le (right_number (right_for act)) (right_number right)

abbrev pub admits : Door → Option (List ℕ) → Act → Bool
admits door secret act = is_enough act (right_shown door.holders secret)

-- whether it is an owner's
abbrev pub is_owners : Option Right → Bool
is_owners None = false
is_owners (Some right) = is_owner right

abbrev pub admits_collection : Door → Option (List ℕ) → Bool
admits_collection door secret = is_owners (right_shown door.holders secret)

-- the same by the library as it began
abbrev pub admitted : {S : Type 0} → Option (DepotView S) → Option (List ℕ) → Act → Bool
admitted None secret act = false
admitted (Some depot) secret act = permits (token_of depot.state.tokens secret) act
