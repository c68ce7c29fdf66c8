-- Numbers in words: decimal, without leading zeros. Our own.
use Rattle.std.specs.Prelude.{ℕ, ◌&&◌, ◌^◌, nat_le, nat_lt, if◌then◌else◌, List, Option, None, Some, decimal}
use Rattle.std.specs.Str.{bytes_eq}
use Rattle.std.specs.Str.Parse.{digits_value}

-- the number below 2 ^ 64 whose decimal digits a text is
abbrev pub number_of : List ℕ → Option ℕ
number_of text =
    if bytes_eq text (decimal (digits_value 10 text)) && nat_lt (digits_value 10 text) (2 ^ 64) then Some (digits_value 10 text)
    else None

-- a number, where it lies between these
abbrev pub within : (least most : ℕ) → Option ℕ → Option ℕ
within least most None = None
within least most (Some number) = if nat_le least number && nat_le number most then Some number else None

-- the number between these that a text is
abbrev pub number_within : (least most : ℕ) → List ℕ → Option ℕ
number_within least most text = within least most (number_of text)
