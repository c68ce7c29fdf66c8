-- What is left, with what was done, is all.
use Rattle.std.proofs.Common.{◌≡◌, ◌++◌, length, map, reverse}
use Rattle.generated_library.specs.Directories.{entry_at}
use Rattle.generated_library.specs.Generated.{time_of}
use Rattle.generated_library.proofs.directories.entries_at.Given as goal

abbrev pub invariant-loop-entry : goal.invariant-loop-entry
invariant-loop-entry l = map (entry_at (time_of l.moment)) l.left.items ++ reverse l.timed.items ≡ map (entry_at (time_of l.moment)) l.fn.entries.items

abbrev pub decreases-loop-entry : goal.decreases-loop-entry
decreases-loop-entry l = length l.left.items
