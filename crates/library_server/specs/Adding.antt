-- The command that adds a token. Our own. Read AddsSo first.
use Rattle.library_state.specs.declared.state.TheConstants.{MAX_TOKENS}
use Rattle.std.specs.Prelude.{◌≡◌, ◌≤◌, ◌⊎◌, ℕ, Bool, true, false, List, length, Option, None, Some, IsTrue, Result, Ok, Err, ⊤}
use Rattle.library_state.specs.Tokens.{is_taken}
use Rattle.depot.specs.Tokens.{is_token_counted, token_refusal}
use Rattle.depot.specs.declared.error.TokenFault.{TokenFault}
use Rattle.depot.specs.declared.error.TokenFault.TheVariants as token
use Rattle.folder_storage.specs.Ground.{Kept, Standing}
use Rattle.library_rules.specs.Creation.{with_token}
use Rattle.library_rules.specs.LibraryState.{State}
use Rattle.library_state.specs.StateSpelling.{text_of}
use Rattle.library_state.specs.declared.state.LibState.{LibState}
use Rattle.object_store.specs.Shelf.{Contents}
use Rattle.object_store.specs.Store.{is_free, is_of_shelf}
use Rattle.object_store.specs.declared.shelf.Slot.{Slot}
use Rattle.server_words.specs.declared.command.Location.{Location}
use Rattle.library_server.specs.Starting.{IsNotBrought, IsOpenedState, OpensTo, RefusesOpening, is_unbrought_counted}
use Rattle.library_server.specs.Standing.{StandsAs}
use Rattle.library_server.specs.declared.adding.NewToken.{NewToken}
use Rattle.library_server.specs.declared.not_done.NotAdded.{NotAdded}
use Rattle.library_server.specs.declared.not_done.NotAdded.TheVariants as unadded

-- the library with the token
abbrev pub with_new : NewToken → State → State
with_new new s = with_token new.user new.secret new.right s

-- the library is there with just the objects of this state, and with the text of that one
pub record StandsWithText (standing : Option Standing) (s t : State) : Type 0 where
  pub held : Contents
  pub there : standing ≡ Some (Kept held)
  pub objects : held.objects ≡ s.objects
  pub text : held.status ≡ Some (text_of t.state)

-- why a token is not added to the library that was opened, and how that stands then: as it was opened, but that where the
-- storage failed its text may be the one with the token
abbrev pub RefusesToken : NewToken → State → TokenFault → Option Standing → Type 0
RefusesToken new s token.SecretTaken after = (is_taken s.state.tokens new.secret ≡ true) × StandsAs after s
RefusesToken new s token.Full after = (is_taken s.state.tokens new.secret ≡ false) × (MAX_TOKENS ≤ length s.state.tokens) × StandsAs after s
RefusesToken new s (token.Store why) after = IsTrue (is_free why) × (StandsWithText after s s ⊎ (IsTrue (is_of_shelf why) × StandsWithText after s (with_new new s)))

-- over told libraries, as one stood before and stands after: what was opened is there with the token, or the token is
-- refused by its first cause, or nothing was opened
abbrev pub AddsSo : Location → List ℕ → (ℕ → Type 0) → NewToken → Standing → Result ⊤ NotAdded → Option Standing → Type 0
AddsSo location lib shows new standing (Ok done) after = (s : State) × OpensTo location lib shows standing s × StandsAs after (with_new new s)
AddsSo location lib shows new standing (Err (unadded.Refused why)) after = (s : State) × OpensTo location lib shows standing s × RefusesToken new s why after
AddsSo location lib shows new standing (Err (unadded.Unbrought why)) after = RefusesOpening location lib shows standing why after

-- why a token is refused by the state that was opened: another token has its secret, or there are 1,000
abbrev pub IsTokenRefused : LibState → NewToken → TokenFault → Type 0
IsTokenRefused state new token.SecretTaken = is_taken state.tokens new.secret ≡ true
IsTokenRefused state new token.Full = (is_taken state.tokens new.secret ≡ false) × (MAX_TOKENS ≤ length state.tokens)
IsTokenRefused state new (token.Store why) = IsTrue (is_free why)

-- over any ground, what a token was added to: the library that was opened, which doesn't refuse it
abbrev pub IsAddedTo : (Slot → Option (List ℕ) → Type 0) → Location → List ℕ → (ℕ → Type 0) → NewToken → Type 0
IsAddedTo gives location lib shows new = (state : LibState) × IsOpenedState gives location lib shows state × (token_refusal state.tokens new.secret ≡ None)

-- the cause of each refusal, over any ground, in what the named library may give as it is handed out
abbrev pub IsNotAdded : (Slot → Option (List ℕ) → Type 0) → Location → List ℕ → (ℕ → Type 0) → NewToken → NotAdded → Type 0
IsNotAdded gives location lib shows new (unadded.Unbrought why) = IsNotBrought gives location lib shows why
IsNotAdded gives location lib shows new (unadded.Refused why) = (state : LibState) × IsOpenedState gives location lib shows state × IsTokenRefused state new why

-- the failure that the storage counts
abbrev pub is_unadded_counted : NotAdded → Bool
is_unadded_counted (unadded.Unbrought why) = is_unbrought_counted why
is_unadded_counted (unadded.Refused why) = is_token_counted why
