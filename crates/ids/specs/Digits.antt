-- Texts of 40 lower-case hexadecimal digits, by which object ids and secrets are written. Read Form first.
use Rattle.std.specs.Prelude.{ℕ, Bool, ◌&&◌, ◌||◌, nat_le}
use Rattle.ids.specs.Form.{Form}

-- `0` to `9` and `a` to `f`
abbrev pub is_lower_digit : ℕ → Bool
is_lower_digit c = (nat_le 48 c && nat_le c 57) || (nat_le 97 c && nat_le c 102)

-- 40 of them
abbrev pub digits_form : Form
digits_form = record { size = 40; allows = λ _ c. is_lower_digit c }
