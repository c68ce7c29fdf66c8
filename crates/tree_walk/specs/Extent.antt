-- How much lies below a directory. Our own. Read extent_in.
use Rattle.std.specs.Prelude.{ℕ, ◌+◌, max, List, [], ◌∷◌, length}
use Rattle.ids.specs.Key.{Objects}
use Rattle.tree_model.specs.declared.limits.TheConstants.{MAX_NAMES}
use Rattle.object_graph.specs.Listing.{Listed, listed}
use Rattle.tree_walk.specs.declared.extent.Extent.{Extent}

-- the greatest number of names of a path
abbrev pub deepest : Listed → ℕ
deepest [] = 0
deepest (x ∷ found) = max (length x.0) (deepest found)

-- the number of paths, and the greatest number of names
abbrev pub extent_in : Listed → Extent
extent_in found = record { paths = length found; deep = deepest found }

-- of a directory as a root, below which a path has at most MAX_NAMES names
abbrev pub extent_of : Objects → List ℕ → Extent
extent_of objects id = extent_in (listed objects MAX_NAMES id)

-- what stands at two places, one after the other
abbrev pub joined : Extent → Extent → Extent
joined one more = record { paths = one.paths + more.paths; deep = max one.deep more.deep }

-- an entry, and what lies below it
abbrev pub with_entry : Extent → Extent
with_entry below = record { paths = below.paths + 1; deep = below.deep + 1 }
