-- The indexes of the jobs so far were found.
use Rattle.std.proofs.Common.{◌≡◌, All, Some, take}
use Rattle.folder_side.specs.Folder.{Contents}
use Rattle.client_commands.specs.Statuses.{HasIndex}
use Rattle.client_commands.proofs.statuses.check_indexes.Given as goal

abbrev pub invariant-loop-job : goal.invariant-loop-job
invariant-loop-job g l = record {
  stays : g.F.Folder.told l.conf ≡ g.F.Folder.told l.initial.conf;
  faults : g.F.Folder.faults l.conf ≡ g.F.Folder.faults l.initial.conf;
  found : (c : Contents) → g.F.Folder.told l.initial.conf ≡ Some c → All (HasIndex c) (take l.job-index l.jobs);
}
