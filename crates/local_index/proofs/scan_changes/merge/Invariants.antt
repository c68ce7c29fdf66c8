use Rattle.std.proofs.Common.{◌≡◌, ◌++◌, ◌+◌, map, length}
use Rattle.std.specs.Map.Iter.{deref_pair}
use Rattle.local_index.specs.MergedEntries.{merged}
use Rattle.local_index.proofs.scan_changes.merge.Given as goal

abbrev pub invariant-loop-left : goal.invariant-loop-left
invariant-loop-left l =
    l.changes ++ merged (map deref_pair l.left.seen.now) (map deref_pair l.left.known.now)
    ≡ merged (map deref_pair l.fn.seen) (map deref_pair l.fn.known)

abbrev pub decreases-loop-left : goal.decreases-loop-left
decreases-loop-left l = length l.left.seen.now + length l.left.known.now
