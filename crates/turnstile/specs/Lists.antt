-- Words on lists of places and of entries. Our own. A list begins another where `IsPrefix` of mathlib holds.
use Rattle.std.specs.Prelude.{◌≡◌, ℕ, ◌⊎◌, List, [], ◌∷◌, length, nat_lt, if◌then◌else◌}

-- the place stands in the book
abbrev pub Has : ℕ → List ℕ → Type 0
Has p [] = ⊥
Has p (q ∷ book) = (p ≡ q) ⊎ Has p book

-- no place stands in the book twice
abbrev pub IsOnce : List ℕ → Type 0
IsOnce [] = Unit {0}
IsOnce (q ∷ book) = ¬ Has q book × IsOnce book

-- of two lists the longer one, and the other
abbrev pub longer : {A : Type 0} → List A → List A → List A
longer xs ys = if nat_lt (length xs) (length ys) then ys else xs

abbrev pub shorter : {A : Type 0} → List A → List A → List A
shorter xs ys = if nat_lt (length xs) (length ys) then xs else ys
