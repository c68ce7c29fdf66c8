-- What the types of the program tell of a state: that ids are ids and texts are texts, and that days and moments are within
-- their types. Our own. Read IsTyped first.
use Rattle.std.specs.Prelude.{◌≡◌, ◌<◌, ◌^◌, All, FitsSigned, IsUtf8, Some}
use Rattle.std.specs.Int.{w64}
use Rattle.uuid.specs.Text.{hyphenated_text, lower}
use Rattle.json_words.specs.IdText.{IsId, library_id_of}
use Rattle.library_state.specs.declared.history.Install.{Install}
use Rattle.library_state.specs.declared.state.LibState.{LibState}
use Rattle.library_state.specs.declared.token.Token.{Token}

pub record IsTypedInstall (install : Install) : Type 0 where
  pub head : IsId install.head
  pub pushed : IsId install.pushed
  pub moment : install.at < 2 ^ 64

pub record IsTypedToken (token : Token) : Type 0 where
  pub secret : IsId token.secret
  pub user : IsUtf8 token.user

pub record IsTyped (state : LibState) : Type 0 where
  pub lib : library_id_of (hyphenated_text lower state.lib) ≡ Some state.lib
  pub name : IsUtf8 state.name
  pub days : FitsSigned w64 state.days
  pub kept : All IsTypedInstall state.kept
  pub tokens : All IsTypedToken state.tokens
