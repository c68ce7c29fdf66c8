-- Which texts are names of files and directories, and the first fault of the others. Our own rule.
use Rattle.std.specs.Prelude.{◌≡◌, ℕ, ◌==◌, ◌||◌, Bool, List, [], ◌∷◌, length, nat_eq, nat_lt, position, option_map, Option, None}
use Rattle.std.specs.Option.{option_or}
use Rattle.std.specs.Bool.{then_some}
use Rattle.std.specs.Cmp.Lexicographic.{pointwise}
use Rattle.tree_model.specs.declared.limits.TheConstants.{MAX_NAME}
use Rattle.tree_model.specs.declared.name.BadName.{BadName}
use Rattle.tree_model.specs.declared.name.BadName.TheVariants.{Empty, TooLong, Forbidden, Dots}

-- the two bytes that no name has: NUL, and '/', which stands between the names of a path
abbrev pub is_separator : ℕ → Bool
is_separator b = (b == 47) || (b == 0)

-- `.` and `..`, which mean directories in every file system
abbrev pub has_dots : List ℕ → Bool
has_dots text = pointwise nat_eq text (46 ∷ []) || pointwise nat_eq text (46 ∷ 46 ∷ [])

-- the first fault of a text as a name: no bytes; over 255 of them; a separator, told by its place; dots
abbrev pub name_fault : List ℕ → Option BadName
name_fault text =
    option_or (then_some (length text == 0) Empty)
    (option_or (then_some (nat_lt MAX_NAME (length text)) (TooLong (length text)))
    (option_or (option_map Forbidden (position is_separator text))
    (then_some (has_dots text) Dots)))

-- the bytes are a name
pub record IsName (text : List ℕ) : Type 0 where
  pub faultless : name_fault text ≡ None
