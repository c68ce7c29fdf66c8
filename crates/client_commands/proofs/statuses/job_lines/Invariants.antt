-- The lines of the jobs so far, and nothing was changed.
use Rattle.std.proofs.Common.{◌≡◌, Some, take}
use Rattle.folder_side.specs.Folder.{Contents}
use Rattle.client_commands.specs.Keeping.{NoneFell}
use Rattle.client_commands.specs.Statuses.{IsSameDesk, TellJobs}
use Rattle.client_commands.specs.Views.{desk_view, own_view}
use Rattle.client_commands.proofs.statuses.job_lines.Given as goal

abbrev pub invariant-loop-job : goal.invariant-loop-job
invariant-loop-job g l =
    let view = desk_view g.D.Desk.has_place g.D.Desk.holds g.D.Desk.dials g.D.Desk.folder_faults g.D.Desk.dial_faults in
    let own = own_view g.D.F.Folder.told g.D.F.Folder.faults in
    record {
      stays : g.D.F.Folder.told l.conf ≡ g.D.F.Folder.told l.initial.conf;
      same : IsSameDesk (view l.initial.desk) (view l.desk);
      fell : NoneFell (own l.initial.conf) (own l.conf) (view l.initial.desk) (view l.desk);
      told : (c : Contents) → g.D.F.Folder.told l.initial.conf ≡ Some c → TellJobs (g.D.Desk.holds l.initial.desk) c (take l.job-index l.jobs) l.lines;
    }
