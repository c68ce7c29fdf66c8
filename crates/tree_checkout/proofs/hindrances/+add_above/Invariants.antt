use Rattle.std.proofs.Common.{length}
use Rattle.tree_checkout.proofs.hindrances.+add_above.Given as goal

abbrev pub decreases-add_above : goal.decreases-add_above
decreases-add_above l = length l.path.now
