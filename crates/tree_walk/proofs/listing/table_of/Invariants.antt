-- What is left, put into the table, gives the table of all.
use Rattle.std.proofs.Common.{◌≡◌, vec_len}
use Rattle.std.specs.FinMap as map
use Rattle.tree_walk.proofs.ListingLemmas.{paths_onto}
use Rattle.tree_walk.proofs.listing.table_of.Given as goal

abbrev pub invariant-loop-path : goal.invariant-loop-path
invariant-loop-path l = paths_onto l.found.items l.entries ≡ map.from_entries l.fn.found.items

abbrev pub decreases-loop-path : goal.decreases-loop-path
decreases-loop-path l = vec_len l.found
