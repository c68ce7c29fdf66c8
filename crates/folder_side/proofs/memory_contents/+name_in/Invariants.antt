use Rattle.std.proofs.Common.{length}
use Rattle.folder_side.proofs.memory_contents.+name_in.Given as goal

abbrev pub decreases-name_in : goal.decreases-name_in
decreases-name_in l = length l.dir.now
