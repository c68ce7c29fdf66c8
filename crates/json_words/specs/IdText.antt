-- The ids that texts and JSON values are, as functions: what `ObjId::read` and `LibId::read` accept.
-- Read has_form, then object_id_of; id_data writes what it reads.
use Rattle.std.specs.Prelude.{◌≡◌, ℕ, suc, ◌==◌, ◌&&◌, Bool, true, List, [], ◌∷◌, length, if◌then◌else◌, Option, Some, None, option_and_then, Result}
use Rattle.std.specs.Result.{result_ok}
use Rattle.std.specs.Str.{bytes_eq}
use Rattle.hex.specs.Hex.{decode_of, encode_lower}
use Rattle.uuid.specs.Text.{parsed}
use Rattle.ids.specs.Digits.{digits_form}
use Rattle.ids.specs.Form.{Form}
use Rattle.ids.specs.LibraryId.{library_form}
use Rattle.ids.specs.ObjectId.{nil}
use Rattle.serde_json.specs.Data.{Data, string}
use Rattle.serde_json.specs.Find.{as_str}
use Rattle.json_words.specs.Check.{◌>>=◌, ok_or}
use Rattle.json_words.specs.Fields.{field}
use Rattle.json_words.specs.declared.fields.FieldFault.{FieldFault}
use Rattle.json_words.specs.declared.fields.FieldFault.TheVariants.{WrongType}

-- whether a form allows the characters from place k on
abbrev pub allows_from : Form → ℕ → List ℕ → Bool
allows_from form k [] = true
allows_from form k (c ∷ cs) = form.allows k c && allows_from form (suc k) cs

-- whether a text has a form
unfoldable pub has_form : Form → List ℕ → Bool
has_form form text = (length text == form.size) && allows_from form 0 text

-- the id whose 40 digits a text is
unfoldable pub object_id_of : List ℕ → Option (List ℕ)
object_id_of text = if has_form digits_form text then result_ok (decode_of text) else None

-- the library id whose 36 characters a text is
unfoldable pub library_id_of : List ℕ → Option (List ℕ)
library_id_of text = if has_form library_form text then parsed text else None

-- an id, unless it is forty zeros, which no object has for its name
abbrev pub unless_nil : List ℕ → Option (List ℕ)
unless_nil id = if bytes_eq id nil then None else Some id

-- the id that a value is the text of
unfoldable pub id_in : Data → Option (List ℕ)
id_in d = option_and_then object_id_of (as_str d)

-- the id other than forty zeros that a value is the text of
unfoldable pub stored_id_in : Data → Option (List ℕ)
stored_id_in d = option_and_then unless_nil (id_in d)

-- an id or a secret as its digits
abbrev pub id_data : List ℕ → Data
id_data id = string (encode_lower id)

-- an id or a secret that its digits are read as
abbrev pub IsId : List ℕ → Type 0
IsId id = object_id_of (encode_lower id) ≡ Some id

-- a field that is the text of an id
unfoldable pub id_field : List ℕ → Data → Result (List ℕ) FieldFault
id_field name d = do
  found ← field name d
  ok_or (id_in found) WrongType
