-- The value of a JSON text (RFC 8259). Read json_of first.
-- What counts as one is what `serde_json` reads: UTF-8, at most 127 levels of arrays and objects, no surrogate that
-- stands alone, no number past the range of a double. Of a key that is written twice the last value counts.
use Rattle.std.specs.Prelude.{ℕ, List, if◌then◌else◌, Option, None}
use Rattle.std.specs.Str.{is_utf8}
use Rattle.serde_json.specs.Data.{Data}
use Rattle.serde_json.specs.Read.{read}

-- the value that some bytes are the text of, if they are one
abbrev pub json_of : List ℕ → Option Data
json_of bytes = if is_utf8 bytes then read bytes else None
