-- How much is read at once, and how much a request and a row may have. Our own.
use Rattle.std.specs.Prelude.{ℕ}

-- the most bytes of a head
abbrev pub head_limit : ℕ
head_limit = 16384

-- the most fields of a head
abbrev pub field_limit : ℕ
field_limit = 64

-- the most bytes of any body: that of files and directories that are to be stored
abbrev pub body_limit : ℕ
body_limit = 67108864

-- the most bytes that come at once
abbrev pub piece_limit : ℕ
piece_limit = 65536

-- an object of a row has fewer bytes, since four tell how many
abbrev pub row_limit : ℕ
row_limit = 4294967296

-- the bytes in front of an object of a row: the 40 digits of its id, and the four that tell its length
abbrev pub row_front : ℕ
row_front = 44
