-- The name of a conflict copy, and the merge with these names. Our own form. Read ext_at, then naming.
use Rattle.std.specs.Prelude.{ℕ, zero, suc, ◌+◌, ◌/◌, ◌==◌, ◌++◌, nat_lt, Bool, List, [], ◌∷◌, if◌then◌else◌, length, take, drop, map, codes}
use Rattle.std.specs.List.{before_last}
use Rattle.tree_model.specs.ConflictCopies.{Naming}
use Rattle.tree_model.specs.DirectorySurvival.{Sides}
use Rattle.tree_model.specs.Name.{is_separator}
use Rattle.tree_model.specs.ThreeWayMerge.{Merge, merge}
use Rattle.conflict_names.specs.CivilTime.{digit, moment_of, stamp}

abbrev pub is_dot : ℕ → Bool
is_dot b = b == 46

-- where a name's extension begins: at the last dot, unless nothing stands before it; else at the end
unfoldable pub ext_at : List ℕ → ℕ
ext_at name = let place : ℕ = length (before_last is_dot name) in if place == 0 then length name else place

-- a modifier's byte as a name shows it: `_` for `/` and NUL, which no name has
abbrev pub shown : ℕ → ℕ
shown b = if is_separator b then 95 else b

-- the decimal digits of a number, `steps` of them at most
abbrev pub numeral_in : ℕ → ℕ → List ℕ
numeral_in zero n = []
numeral_in (suc steps) n = if nat_lt n 10 then digit n ∷ [] else numeral_in steps (n / 10) ++ digit n ∷ []

-- the decimal text of a number, of any size
unfoldable pub numeral : ℕ → List ℕ
numeral n = numeral_in (n + 1) n

-- what tells a copy's number: nothing for the first, then `-2`, `-3` and so on
abbrev pub number_text : ℕ → List ℕ
number_text k = if nat_lt k 2 then [] else 45 ∷ numeral k

-- `stem (SFConflict modifier YYYY-MM-DD-HH-MM-SS-k).ext`
abbrev pub naming : Naming
naming name modifier mtime k =
    take (ext_at name) name ++ codes " (SFConflict " ++ map shown modifier ++ 32 ∷ []
    ++ stamp (moment_of mtime) ++ number_text k ++ 41 ∷ [] ++ drop (ext_at name) name

-- the merge of three trees, with the names that conflict copies get here
abbrev pub merge_of : Sides → Merge
merge_of sides = merge naming sides.base sides.head sides.pushed
