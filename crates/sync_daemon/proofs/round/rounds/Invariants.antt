-- So many rounds ended late, and the folder told the same all the time.
use Rattle.std.proofs.Common.{◌≡◌, ◌≤◌, ◌-◌}
use Rattle.folder_side.specs.Calls.{Glances}
use Rattle.sync_daemon.specs.Rounds.{IsInRounds, sync_of}
use Rattle.sync_daemon.proofs.round.rounds.Given as goal

abbrev pub invariant-loop-late : goal.invariant-loop-late
invariant-loop-late g l = record {
  told : g.F.Folder.told l.folder ≡ g.F.Folder.told l.fn.folder;
  peer : g.R.Remote.peer l.remote ≡ g.R.Remote.peer l.fn.remote;
  traced : Glances (g.F.Folder.trace l.fn.folder) (g.F.Folder.trace l.folder);
  faults : g.F.Folder.faults l.folder ≡ g.F.Folder.faults l.fn.folder;
  few : l.late ≤ 3;
  so : IsInRounds (sync_of l.asker l.user (g.C.Clock.shows l.clock) l.cuts (g.F.Folder.told l.fn.folder) l.index) (g.R.Remote.sends l.fn.remote) (g.R.Remote.sends l.remote) l.late l.last;
}

abbrev pub decreases-loop-late : goal.decreases-loop-late
decreases-loop-late g l = 3 - l.late
