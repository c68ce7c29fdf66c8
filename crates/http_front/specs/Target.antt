-- The target of a request: a path, or a path, `?` and a query (RFC 9112, section 3.2.1). Nothing in it is
-- percent-decoded. Read parts_of first, at the end.
use Rattle.std.specs.Prelude.{ℕ, ◌-◌, ◌==◌, if◌then◌else◌, List, length, take, slice_index}
use Rattle.std.specs.List.{slice_split, before_first}

-- what stands in front of the first `?`
abbrev pub before_query : List ℕ → List ℕ
before_query target = before_first (λ c. c == 63) target

-- a path without one slash at its end
abbrev pub without_end_slash : List ℕ → List ℕ
without_end_slash path = if slice_index path (length path - 1) == 47 then take (length path - 1) path else path

-- the path of a target, of which one slash at the end is dropped
abbrev pub path_of : List ℕ → List ℕ
path_of target = without_end_slash (before_query target)

-- a path between its slashes. The first part is what stands in front of the first slash
abbrev pub parts : List ℕ → List (List ℕ)
parts path = slice_split (λ c. c == 47) path

-- the parts of a target's path
abbrev pub parts_of : List ℕ → List (List ℕ)
parts_of target = parts (path_of target)
