-- The one text of a state: compact JSON with sorted keys. docs/FORMATS.md, "State text". Read text_of first.
use Rattle.std.specs.Prelude.{ℕ, ℤ, List, map, codes}
use Rattle.uuid.specs.Text.{hyphenated_text, lower}
use Rattle.serde_json.specs.Data.{Data, number, string, array, object, unsigned, member, no_members}
use Rattle.serde_json.specs.Find.{of_integer}
use Rattle.serde_json.specs.View.{items_of}
use Rattle.serde_json.specs.Written.{compact_text}
use Rattle.json_words.specs.IdText.{id_data}
use Rattle.library_state.specs.Rights.{right_text}
use Rattle.library_state.specs.declared.history.Install.{Install}
use Rattle.library_state.specs.declared.state.LibState.{LibState}
use Rattle.library_state.specs.declared.token.Token.{Token}

-- a head update, of which the ids are given as values
unfoldable pub install_with : ℕ → Data → Data → Data
install_with at head pushed =
    object (member (codes "at") (number (unsigned at))
    (member (codes "head") head
    (member (codes "pushed") pushed no_members)))

abbrev pub install_data : Install → Data
install_data install = install_with install.at (id_data install.head) (id_data install.pushed)

-- a token, of which the secret is given as a value
unfoldable pub token_with : ℕ → List ℕ → Data → List ℕ → Data
token_with last right secret user =
    object (member (codes "last") (number (unsigned last))
    (member (codes "right") (string right)
    (member (codes "secret") secret
    (member (codes "user") (string user) no_members))))

abbrev pub token_data : Token → Data
token_data token = token_with token.last (right_text token.right) (id_data token.secret) token.user

-- a state, of which the lists and the library's id are given as values
unfoldable pub state_with : ℕ → ℤ → List Data → Data → List ℕ → ℕ → List Data → Data
state_with collection days kept lib name opening tokens =
    object (member (codes "collection") (number (unsigned collection))
    (member (codes "days") (number (of_integer days))
    (member (codes "kept") (array (items_of kept))
    (member (codes "lib") lib
    (member (codes "name") (string name)
    (member (codes "opening") (number (unsigned opening))
    (member (codes "tokens") (array (items_of tokens))
    (member (codes "version") (number (unsigned 1)) no_members))))))))

-- the value that is written
abbrev pub state_data : LibState → Data
state_data state =
    state_with state.collection state.days (map install_data state.kept) (string (hyphenated_text lower state.lib)) state.name state.opening (map token_data state.tokens)

-- the text of a state
abbrev pub text_of : LibState → List ℕ
text_of state = compact_text (state_data state)
