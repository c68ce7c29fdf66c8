-- The fields of a JSON object, each with its type. Our own. Read field first.
-- The faults bear no key: a reader puts its own to them.
use Rattle.std.specs.Prelude.{ℕ, ℤ, Bool, false, ◌&&◌, nat_le, List, [], ◌∷◌, if◌then◌else◌, Option, Some, None, is_some, option_and_then, Result, Ok}
use Rattle.std.specs.Option.{option_map_or}
use Rattle.std.specs.List.{list_all, list_any}
use Rattle.std.specs.Str.{bytes_eq}
use Rattle.serde_json.specs.Data.{Data, Items, no_items, item, Members, no_members, member}
use Rattle.serde_json.specs.Find.{get, as_null, as_number, as_str, as_array, as_object, as_u64, as_i64}
use Rattle.json_words.specs.Check.{◌>>=◌, holds, ok_or}
use Rattle.json_words.specs.declared.fields.FieldFault.{FieldFault}
use Rattle.json_words.specs.declared.fields.FieldFault.TheVariants.{Missing, WrongType}

-- the items of an array, in order
abbrev pub list_of : Items → List Data
list_of no_items = []
list_of (item d ds) = d ∷ list_of ds

-- the keys of an object, in order
abbrev pub keys_of : Members → List (List ℕ)
keys_of no_members = []
keys_of (member key d ms) = key ∷ keys_of ms

-- whether a value is an object
abbrev pub is_object : Data → Bool
is_object d = is_some (as_object d)

-- the field with a name
abbrev pub field : List ℕ → Data → Result Data FieldFault
field name d = ok_or (get name d) Missing

-- a whole number from 0 to 2^64 - 1; one written with a point, an exponent or as `-0` is none
unfoldable pub number_field : List ℕ → Data → Result ℕ FieldFault
number_field name d = do
  found ← field name d
  ok_or (option_and_then as_u64 (as_number found)) WrongType

-- a whole number from low to high
unfoldable pub number_between : ℕ → ℕ → List ℕ → Data → Result ℕ FieldFault
number_between low high name d = do
  n ← number_field name d
  within ← holds (nat_le low n && nat_le n high) WrongType
  Ok n

-- a whole number from -2^63 to 2^63 - 1
unfoldable pub integer_field : List ℕ → Data → Result ℤ FieldFault
integer_field name d = do
  found ← field name d
  ok_or (option_and_then as_i64 (as_number found)) WrongType

-- a text
unfoldable pub text_field : List ℕ → Data → Result (List ℕ) FieldFault
text_field name d = do
  found ← field name d
  ok_or (as_str found) WrongType

-- an array
unfoldable pub array_field : List ℕ → Data → Result (List Data) FieldFault
array_field name d = do
  found ← field name d
  items ← ok_or (as_array found) WrongType
  Ok (list_of items)

-- the value, unless it is null
abbrev pub unless_null : Data → Option Data
unless_null d = if is_some (as_null d) then None else Some d

-- the field with a name, where it is there and not null
unfoldable pub optional_field : List ℕ → Data → Option Data
optional_field name d = option_and_then unless_null (get name d)

-- a text, or none where the field is absent or null
abbrev pub text_if : Option Data → Result (Option (List ℕ)) FieldFault
text_if None = Ok None
text_if (Some found) = ok_or (as_str found) WrongType >>= (λ text. Ok (Some text))

unfoldable pub optional_text : List ℕ → Data → Result (Option (List ℕ)) FieldFault
optional_text name d = text_if (optional_field name d)

-- whether an object has no key but the known ones
abbrev pub has_only_members : List (List ℕ) → Members → Bool
has_only_members known ms = list_all (λ key. list_any (bytes_eq key) known) (keys_of ms)

-- whether a value is an object with no key but the known ones
unfoldable pub has_only : List (List ℕ) → Data → Bool
has_only known d = option_map_or (has_only_members known) (as_object d) false
