-- Halves are shorter than the whole.
use Rattle.std.proofs.Common.{◌*◌, ◌-◌, length}
use Rattle.tree_fetch.proofs.list.+fetching.Given as goal

abbrev pub decreases-fetch_list : goal.decreases-fetch_list
decreases-fetch_list g l = 2 * length l.ids.now

abbrev pub decreases-fetch_halves : goal.decreases-fetch_halves
decreases-fetch_halves g l = 2 * length l.ids.now - 1
