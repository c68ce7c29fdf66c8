-- The commits so far were met.
use Rattle.std.proofs.Common.{◌≡◌, map, take}
use Rattle.object_graph.specs.Objects.{commit_key}
use Rattle.collector.proofs.WorklistLemmas.{met_after}
use Rattle.collector.specs.Worklist.{no_keys}
use Rattle.collector.proofs.marks.waiting.Given as goal

abbrev pub invariant-loop-commit : goal.invariant-loop-commit
invariant-loop-commit l = l.work ≡ met_after no_keys (map commit_key (take l.commit-index l.commits))
