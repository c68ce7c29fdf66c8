-- Which files of a merge leave their names, and the names that they take. Our own. Read leaver_at, then moves.
use Rattle.std.specs.Prelude.{◌≡◌, ◌≤◌, ◌<◌, ℕ, zero, suc, ◌+◌, ◌||◌, Bool, true, false, ℤ, if◌then◌else◌, List, [], ◌∷◌, ◌++◌, length, map as map_list, nat_lt, Option, Some, None, is_some, find, option_map}
use Rattle.std.specs.List.{list_any}
use Rattle.std.specs.Option.{option_or}
use Rattle.std.specs.Ordering.{eq_by_cmp}
use Rattle.std.specs.FinMap as map
use Rattle.tree_model.specs.declared.limits.TheConstants.{MAX_NAME}
use Rattle.tree_model.specs.declared.node.FileVersion.{FileVersion}
use Rattle.tree_model.specs.Path.{PathV, path_cmp, parent_of, last_name}
use Rattle.tree_model.specs.DirectorySurvival.{Sides, main_at, side_at, stays, paths_of_all}

-- what f gives, at those keys at which it gives something
abbrev pub with_told : {K X : Type 0} → K → Option X → List (K × X) → List (K × X)
with_told key None es = es
with_told key (Some x) es = (key, x) ∷ es

abbrev pub told : {K X : Type 0} → (K → Option X) → List K → List (K × X)
told f [] = []
told f (key ∷ keys) = with_told key (f key) (told f keys)

-- the file that leaves the path: the side file, or the main file where a directory survives at its path
abbrev pub leaver_at : Sides → PathV → Option FileVersion
leaver_at s path = option_or (side_at s path) (if stays s path then main_at s path else None)

-- the files that leave their paths, in the byte order of these
abbrev pub leavers : Sides → map.FinMap path_cmp FileVersion
leavers s = map.from_entries (told (leaver_at s) (paths_of_all s))

-- whether one of the three trees has the path
abbrev pub in_trees : Sides → PathV → Bool
in_trees s path = is_some (map.get s.base path) || (is_some (map.get s.head path) || is_some (map.get s.pushed path))

-- the name of a conflict copy, from the file's name, its modifier, its mtime and a number from 1 on
abbrev pub Naming : Type 0
Naming = List ℕ → List ℕ → ℤ → ℕ → List ℕ

-- Each thing takes the spot of the least number from 1 on that isn't used and wasn't taken by an earlier one.
-- `tries` numbers are looked at; there are as many as used and taken spots and one more, so one is free.
module _ {K X : Type 0} (same : K → K → Bool) (is_used : K → Bool) (spot : X → ℕ → K) where
  abbrev pub is_gone : List K → K → Bool
  is_gone taken key = is_used key || list_any (same key) taken

  abbrev pub least_free : List K → X → ℕ → ℕ → ℕ
  least_free taken x zero k = k
  least_free taken x (suc tries) k = if is_gone taken (spot x k) then least_free taken x tries (k + 1) else k

  abbrev pub moves : ℕ → List K → List X → List (X × K)
  moves tries taken [] = []
  moves tries taken (x ∷ xs) =
      (x, spot x (least_free taken x tries 1)) ∷ moves tries (spot x (least_free taken x tries 1) ∷ taken) xs

-- the place of a file's conflict copy: in its own directory, under the name of that number
abbrev pub conflict_spot : Naming → PathV × FileVersion → ℕ → PathV
conflict_spot naming leaver k = parent_of leaver.0 ++ naming (last_name leaver.0) leaver.1.modifier leaver.1.mtime k ∷ []

abbrev pub tries : Sides → ℕ
tries s = map.len s.base + map.len s.head + map.len s.pushed + map.len (leavers s) + 1

-- the files that leave, each with the path of its conflict copy, in the byte order of their own paths
abbrev pub conflicts : Naming → Sides → List ((PathV × FileVersion) × PathV)
conflicts naming s = moves (eq_by_cmp path_cmp) (in_trees s) (conflict_spot naming) (tries s) [] (map.entries (leavers s))

-- the first file whose conflict name has more than 255 bytes, with that length
abbrev pub first_long : List ((PathV × FileVersion) × PathV) → Option (PathV × ℕ)
first_long ms = option_map (λ m. (m.0.0, length (last_name m.1))) (find (λ m. nat_lt MAX_NAME (length (last_name m.1))) ms)

-- the paths of copies
abbrev pub places_of : List ((PathV × FileVersion) × PathV) → List PathV
places_of copies = map_list (λ copy. copy.1) copies

-- whether a path is among those that were taken
abbrev pub is_among : PathV → List PathV → Bool
is_among path taken = list_any (eq_by_cmp path_cmp path) taken

-- a copy's place has the least number from 1 on whose path is in none of the three trees and wasn't taken before
pub record IsLeastFree (naming : Naming) (s : Sides) (taken : List PathV) (copy : (PathV × FileVersion) × PathV) : Type 0 where
  pub number : ℕ
  pub from_one : 1 ≤ number
  pub at : copy.1 ≡ conflict_spot naming copy.0 number
  pub free : (in_trees s copy.1 || is_among copy.1 taken) ≡ false
  pub least : (k : ℕ) → 1 ≤ k → k < number
      → (in_trees s (conflict_spot naming copy.0 k) || is_among (conflict_spot naming copy.0 k) taken) ≡ true

-- whether the path is that of an entry of the directory
abbrev pub stands_in : PathV → PathV → Bool
stands_in dir path = eq_by_cmp path_cmp (parent_of path) dir

-- the copies that files get if they alone leave their names
abbrev pub copies_alone : Naming → Sides → List (PathV × FileVersion) → List ((PathV × FileVersion) × PathV)
copies_alone naming s files = moves (eq_by_cmp path_cmp) (in_trees s) (conflict_spot naming) (tries s) [] files
