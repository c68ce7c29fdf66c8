-- So many jobs were synced.
use Rattle.std.proofs.Common.{◌≡◌, ◌++◌, ◌-◌, List, Result, length, map}
use Rattle.sync_rules.specs.declared.fault.SyncFault.{SyncFault}
use Rattle.sync_rules.specs.declared.synced.Synced.{Synced}
use Rattle.sync_daemon.specs.Turns.{Turning, state_of}
use Rattle.sync_daemon.proofs.turns.run_turn.Given as goal

abbrev pub invariant-loop-place : goal.invariant-loop-place
invariant-loop-place g l =
    (more : List (Result Synced SyncFault)) × (l.results.items ≡ l.initial.results.items ++ more)
    × Turning (g.C.Clock.shows l.clock) l.place (map (state_of g.F.Folder.told g.F.Folder.faults g.R.Remote.sends g.R.Remote.peer) l.initial.jobs.items)
    (map (state_of g.F.Folder.told g.F.Folder.faults g.R.Remote.sends g.R.Remote.peer) l.jobs.items) more

abbrev pub decreases-loop-place : goal.decreases-loop-place
decreases-loop-place g l = length l.jobs.items - l.place
