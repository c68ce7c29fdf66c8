-- Paths, their texts and their byte order. A path is a list of names; read path_text, then path_cmp.
use Rattle.std.specs.Prelude.{ℕ, ◌==◌, Bool, true, false, if◌then◌else◌, List, [], ◌∷◌, ◌++◌, Option, Some, None}
use Rattle.std.specs.List.{AllByRecursion, join_with_byte, list_all, slice_split}
use Rattle.std.specs.Option.{is_none}
use Rattle.std.specs.declared.cmp.Ordering.{Ordering}
use Rattle.std.specs.Ordering.{nat_cmp, on}
use Rattle.std.specs.Cmp.Lexicographic.{slice_cmp}
use Rattle.tree_model.specs.Name.{IsName, name_fault}

-- the names from the root on, each as its bytes
abbrev pub PathV : Type 0
PathV = List (List ℕ)

-- each name is good
pub record IsPath (path : PathV) : Type 0 where
  pub named : AllByRecursion IsName path

-- whether names follow
abbrev pub has_more : PathV → Bool
has_more [] = false
has_more (name ∷ path) = true

-- the directory that a path's entry stands in; of the root the root
abbrev pub parent_of : PathV → PathV
parent_of [] = []
parent_of (name ∷ []) = []
parent_of (name ∷ next ∷ path) = name ∷ parent_of (next ∷ path)

-- the last name of a path; of the root no bytes
abbrev pub last_name : PathV → List ℕ
last_name [] = []
last_name (name ∷ []) = name
last_name (name ∷ next ∷ path) = last_name (next ∷ path)

-- a name as it stands in a path's text: with a '/' behind it where more names follow
abbrev pub slashed : List ℕ → Bool → List ℕ
slashed name more = name ++ (if more then 47 ∷ [] else [])

-- the pieces of a path's text, one for each name
abbrev pub segments : PathV → List (List ℕ)
segments [] = []
segments (name ∷ path) = slashed name (has_more path) ∷ segments path

-- the names joined by '/'
abbrev pub path_text : PathV → List ℕ
path_text path = join_with_byte 47 path

-- the path of some names, where they are good
abbrev pub good_path : List (List ℕ) → Option PathV
good_path names = if list_all (λ name. is_none (name_fault name)) names then Some names else None

-- the path whose text this is: good names with '/' between them. The text of the root has no bytes, and is none
abbrev pub path_of : List ℕ → Option PathV
path_of text = good_path (slice_split (λ b. b == 47) text)

-- the byte order of the texts, told piece by piece so that it tells all lists of lists apart
abbrev pub path_cmp : PathV → PathV → Ordering
path_cmp = on segments (slice_cmp (slice_cmp nat_cmp))
