-- What `read` tells of each state, and what a state must have to be read as what was written. Our own.
-- Read IsProper first.
use Rattle.std.specs.Prelude.{◌≡◌, ◌≢◌, ℕ, ◌≤◌, All, true, List, length}
use Rattle.std.specs.List.{IsDistinct}
use Rattle.std.specs.Str.{bytes_eq}
use Rattle.ids.specs.ObjectId.{nil}
use Rattle.library_state.specs.StateText.{last_number, is_day_count}
use Rattle.library_state.specs.Tokens.{secrets_of}
use Rattle.library_state.specs.declared.history.Install.{Install}
use Rattle.library_state.specs.declared.state.LibState.{LibState}
use Rattle.library_state.specs.declared.token.Token.{Token}
use Rattle.library_state.specs.declared.state.TheConstants.{MAX_STATE_NAME, MAX_TOKENS}

-- a head update names its commits by no forty zeros
pub record IsProperInstall (install : Install) : Type 0 where
  pub head : install.head ≢ nil
  pub pushed : install.pushed ≢ nil

-- a token saw no collection past the last one, and its user has a name that fits
pub record IsProperToken (collection : ℕ) (token : Token) : Type 0 where
  pub last : token.last ≤ collection
  pub least : 1 ≤ length token.user
  pub most : length token.user ≤ MAX_STATE_NAME

-- there is a token for each secret, at most 1,000 of them
pub record AreProperTokens (collection : ℕ) (tokens : List Token) : Type 0 where
  pub each : All (IsProperToken collection) tokens
  pub few : length tokens ≤ MAX_TOKENS
  pub distinct : IsDistinct bytes_eq (secrets_of tokens)

-- there is a head, and the numbers and texts are within their limits
pub record IsProper (state : LibState) : Type 0 where
  pub collection : state.collection ≤ last_number
  pub days : is_day_count state.days ≡ true
  pub some_kept : 1 ≤ length state.kept
  pub kept : All IsProperInstall state.kept
  pub name : length state.name ≤ MAX_STATE_NAME
  pub opened : 1 ≤ state.opening
  pub opening : state.opening ≤ last_number
  pub tokens : AreProperTokens state.collection state.tokens
