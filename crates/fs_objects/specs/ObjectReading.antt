-- For private clauses: what the value of a member is read as.
use Rattle.std.specs.Prelude.{ℕ, List, option_and_then, Result, Ok}
use Rattle.serde_json.specs.Data.{Data}
use Rattle.serde_json.specs.Find.{as_array, as_number, as_u64}
use Rattle.json_words.specs.Check.{◌>>=◌, ok_or}
use Rattle.json_words.specs.Fields.{list_of}
use Rattle.json_words.specs.declared.fields.FieldFault.{FieldFault}
use Rattle.json_words.specs.declared.fields.FieldFault.TheVariants.{WrongType}

-- a whole number from 0 to 2^64 - 1
abbrev pub number_in : Data → Result ℕ FieldFault
number_in d = ok_or (option_and_then as_u64 (as_number d)) WrongType

-- the items of an array
abbrev pub array_in : Data → Result (List Data) FieldFault
array_in d = ok_or (as_array d) WrongType >>= (λ items. Ok (list_of items))
