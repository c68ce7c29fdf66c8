-- The order of object ids and the id that names nothing. Our own; an id is the SHA-1 of FIPS 180-4.
use Rattle.std.specs.Prelude.{ℕ, List, replicate}
use Rattle.std.specs.Cmp.Lexicographic.{slice_cmp}
use Rattle.std.specs.declared.cmp.Ordering.{Ordering}
use Rattle.std.specs.Ordering.{nat_cmp}

-- the id that names nothing: twenty zeros
abbrev pub nil : List ℕ
nil = replicate 20 0

-- ids are ordered by their bytes
abbrev pub id_cmp : List ℕ → List ℕ → Ordering
id_cmp = slice_cmp nat_cmp
