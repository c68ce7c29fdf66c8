-- What the holder of a token may do. The texts are Seafile's, with one for the owner. Read right_number first.
use Rattle.std.specs.Prelude.{ℕ, List, codes, if◌then◌else◌, Option, Some, None}
use Rattle.std.specs.Str.{bytes_eq}
use Rattle.library_state.specs.declared.right.Right.{Right}
use Rattle.library_state.specs.declared.right.Right.TheVariants.{Read, Write, Owner}

-- the place of a right in the rising order
abbrev pub right_number : Right → ℕ
right_number Read = 0
right_number Write = 1
right_number Owner = 2

-- the right as it is written
abbrev pub right_text : Right → List ℕ
right_text Read = codes "r"
right_text Write = codes "rw"
right_text Owner = codes "own"

-- the right that a text is
abbrev pub right_of : List ℕ → Option Right
right_of text =
    if bytes_eq text (codes "r") then Some Read
    else if bytes_eq text (codes "rw") then Some Write
    else if bytes_eq text (codes "own") then Some Owner
    else None
