use Rattle.std.proofs.Common.{length}
use Rattle.tree_checkout.proofs.hindrances.+has_at_or_above.Given as goal

abbrev pub decreases-has_at_or_above : goal.decreases-has_at_or_above
decreases-has_at_or_above l = length l.path
