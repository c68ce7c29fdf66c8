-- The client's own folder goes out and comes back.
use Rattle.std.specs.Prelude.{⊤}
use Rattle.client_commands.specs.Starts.{opened, unopened}
use Rattle.client_commands.specs.Views.{desk_view, own_view}
use Rattle.client_commands.proofs.KeepLemmas.{kept_err, still_found}
use Rattle.client_commands.proofs.starting.start_at.Goals as goal

pub give_folder-requires : goal.give_folder-requires
give_folder-requires g c = record { found = still_found _ _ _ c.args.conf.now c.in-Ok.ensures.told.found c.in-Ok.ensures.told.places c.run_listed-status.ensures.stays }

pub returns-in-Err : goal.returns-in-Err
returns-in-Err g c =
    let view = desk_view g.D.Desk.has_place g.D.Desk.holds g.D.Desk.dials g.D.Desk.folder_faults g.D.Desk.dial_faults in
    record {
      value = unopened c.in-Err.fault c.in-Err.ensures.told.0 (kept_err {U = ⊤} (view c.args.desk.now) (view c.take_folder.new.desk) c.in-Err.fault c.in-Err.ensures.told.1)
          c.print_line.ensures.prints;
    }

pub returns : goal.returns
returns g c =
    let view = desk_view g.D.Desk.has_place g.D.Desk.holds g.D.Desk.dials g.D.Desk.folder_faults g.D.Desk.dial_faults in
    let own = own_view g.D.F.Folder.told g.D.F.Folder.faults in
    record {
      value = opened (own c.in-Ok.folder) (own c.run_listed-status.new.conf) (view c.take_folder.new.desk) (view c.run_listed-status.new.desk) c.in-Ok.ensures.told
          c.run_listed-status.ensures.value c.give_folder.ensures.after;
    }
