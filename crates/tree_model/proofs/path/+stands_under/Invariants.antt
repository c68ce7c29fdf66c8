use Rattle.std.proofs.Common.{length}
use Rattle.tree_model.proofs.path.+stands_under.Given as goal

abbrev pub decreases-stands_under : goal.decreases-stands_under
decreases-stands_under l = length l.dir.now
