-- Rows, as which files and directories travel: the 40 digits of an id, a length as four bytes with the highest first,
-- and that many bytes. Our own, after Seafile's sync calls. Read row_text first, then IsRowsOf.
use Rattle.std.specs.Prelude.{ℕ, ◌≡◌, ◌≢◌, ◌<◌, All, List, [], ◌∷◌, ◌++◌, length, Result, Ok, Err, ⊤}
use Rattle.std.specs.Int.{to_be_bytes, w32}
use Rattle.hex.specs.Hex.{encode_lower}
use Rattle.json_words.specs.declared.answer.ReadFault.{ReadFault}
use Rattle.json_words.specs.declared.answer.ReadFault.TheVariants.{Bad, NoMemory}
use Rattle.http_front.specs.Limits.{row_limit}
use Rattle.http_front.specs.declared.row.Row.{Row}

abbrev pub row_with : List ℕ → List ℕ → Row
row_with id bytes = record { id = id; bytes = bytes }

abbrev pub row_text : Row → List ℕ
row_text row = encode_lower row.id ++ (to_be_bytes w32 (length row.bytes) ++ row.bytes)

abbrev pub rows_text : List Row → List ℕ
rows_text [] = []
rows_text (row ∷ rows) = row_text row ++ rows_text rows

-- each object is short enough for its length to be told
abbrev pub FitRows : List Row → Type 0
FitRows rows = All (λ row. length row.bytes < row_limit) rows

-- a row that a text can spell
pub record IsRow (row : Row) : Type 0 where
  pub id_size : length row.id ≡ 20
  pub id_bytes : All (λ byte. byte < 256) row.id
  pub fits : length row.bytes < row_limit

-- no row stands at the front
abbrev pub HasNoRow : List ℕ → Type 0
HasNoRow rest = (row : Row) (more : List ℕ) → IsRow row → rest ≢ row_text row ++ more

-- a body that isn't all rows: those in front, and what is left, at whose front no row stands
pub record IsBadAt (body : List ℕ) (at : ℕ) : Type 0 where
  pub front : List Row
  pub rest : List ℕ
  pub are_rows : All IsRow front
  pub whole : body ≡ rows_text front ++ rest
  pub place : at ≡ length (rows_text front)
  pub more : rest ≢ []
  pub no_row : HasNoRow rest

-- the rows that a body is, or the place at which its first bad row begins
abbrev pub IsRowsOf : List ℕ → Result (List Row) ℕ → Type 0
IsRowsOf body (Ok rows) = All IsRow rows × (body ≡ rows_text rows)
IsRowsOf body (Err at) = IsBadAt body at

-- the same, or want of memory
abbrev pub ReadsRows : List ℕ → Result (List Row) (ReadFault ℕ) → Type 0
ReadsRows body (Ok rows) = IsRowsOf body (Ok rows)
ReadsRows body (Err (Bad at)) = IsRowsOf body (Err at)
ReadsRows body (Err NoMemory) = ⊤
