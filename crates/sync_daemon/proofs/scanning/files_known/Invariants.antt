-- The files so far are counted.
use Rattle.std.specs.FinMap as map
use Rattle.sync_daemon.proofs.FilesKnownLemmas.{CountsSo}
use Rattle.sync_daemon.proofs.scanning.files_known.Given as goal

abbrev pub invariant-loop-known : goal.invariant-loop-known
invariant-loop-known l = CountsSo (map.entries l.index.entries) l.known-iterator l.count
