-- So many turns were done.
use Rattle.std.proofs.Common.{◌≤◌, ◌-◌, map}
use Rattle.sync_daemon.specs.Turns.{TurnsSo, state_of}
use Rattle.sync_daemon.proofs.turns.run_turns.Given as goal

abbrev pub invariant-loop-turn : goal.invariant-loop-turn
invariant-loop-turn g l = record {
  few : l.turn ≤ l.turns;
  so : TurnsSo (g.C.Clock.shows l.clock) l.turn (map (state_of g.F.Folder.told g.F.Folder.faults g.R.Remote.sends g.R.Remote.peer) l.initial.jobs.items)
      (map (state_of g.F.Folder.told g.F.Folder.faults g.R.Remote.sends g.R.Remote.peer) l.jobs.items) l.results.items;
}

abbrev pub decreases-loop-turn : goal.decreases-loop-turn
decreases-loop-turn g l = l.turns - l.turn
