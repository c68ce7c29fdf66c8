-- Bodies that are a JSON array (RFC 8259) of ids, each as its 40 digits. Our own, after Seafile's sync calls.
-- Read ids_of first.
use Rattle.std.specs.Prelude.{ℕ, List, map, Option, Result}
use Rattle.serde_json.specs.Data.{Data, array}
use Rattle.serde_json.specs.Find.{as_array}
use Rattle.serde_json.specs.View.{items_of}
use Rattle.serde_json.specs.Written.{compact_text}
use Rattle.json_words.specs.Check.{◌>>=◌, each, ok_or}
use Rattle.json_words.specs.Fields.{list_of}
use Rattle.json_words.specs.IdText.{id_data, id_in}
use Rattle.json_words.specs.JsonText.{json_of}

-- how deep the items of an array may nest where it is a whole text, which nests at most 127 levels
abbrev pub item_depth : ℕ
item_depth = 126

-- an item is the text of an id
abbrev pub id_at : Data → Result (List ℕ) ℕ
id_at d = ok_or (id_in d) 0

-- the ids that a value is an array of
unfoldable pub ids_of_value : Data → Result (List (List ℕ)) ℕ
ids_of_value d = do
  items ← ok_or (as_array d) 0
  each id_at (list_of items)

-- the ids of what a text is read as
abbrev pub ids_of_read : Option Data → Result (List (List ℕ)) ℕ
ids_of_read read = ok_or read 0 >>= ids_of_value

-- the ids that a body is an array of. Every fault has the place 0
unfoldable pub ids_of : List ℕ → Result (List (List ℕ)) ℕ
ids_of body = do
  d ← ok_or (json_of body) 0
  ids_of_value d

-- the compact text of an array of ids
unfoldable pub array_text : List (List ℕ) → List ℕ
array_text ids = compact_text (array (items_of (map id_data ids)))
