-- For private clauses: entries whose names descend. Read descending.
use Rattle.std.specs.Prelude.{◌&&◌, Bool, true, List, [], ◌∷◌}
use Rattle.std.specs.Ordering.{is_lt}
use Rattle.fs_objects.specs.declared.dirent.Dirent.{Dirent}
use Rattle.object_graph.specs.Objects.{name_cmp}

-- the name of an entry is above that of the first of these
abbrev pub is_above : Dirent → List Dirent → Bool
is_above e [] = true
is_above e (x ∷ entries) = is_lt (name_cmp x.name e.name)

-- each name is above the next one
abbrev pub descending : List Dirent → Bool
descending [] = true
descending (e ∷ entries) = is_above e entries && descending entries
