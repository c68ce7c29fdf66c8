-- The ids kept so far, with those of the rest, are all.
use Rattle.std.proofs.Common.{◌≡◌, drop}
use Rattle.std.specs.FinMap as fin
use Rattle.sync_daemon.specs.Bringing.{with_owns}
use Rattle.sync_daemon.proofs.known_entries.written_owns.Given as goal

abbrev pub invariant-loop-write : goal.invariant-loop-write
invariant-loop-write l = with_owns l.written (drop l.write-index l.writes) l.left ≡ with_owns fin.empty l.writes l.owns
