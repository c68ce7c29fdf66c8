-- The marker was put, or it was not.
use Rattle.sync_rules.specs.declared.synced.Synced.{Synced}
use Rattle.client_commands.specs.Views.{desk_view}
use Rattle.client_commands.proofs.FolderLemmas.{not_put, not_taken, was_put}
use Rattle.client_commands.proofs.folders.told_of_marker.Goals as goal

pub returns-in-Ok : goal.returns-in-Ok
returns-in-Ok g c =
    let view = desk_view g.D.Desk.has_place g.D.Desk.holds g.D.Desk.dials g.D.Desk.folder_faults g.D.Desk.dial_faults in
    let stays = c.check_marker.ensures.stays in
    let told = was_put c.args.synced (view c.args.desk.now) (view c.check_marker.new.self) stays.0 stays.1 stays.2 stays.3 c.in-Ok.ensures.faults in
    record { value = told.0; faults = told.1 }

pub returns-in-Err : goal.returns-in-Err
returns-in-Err g c =
    let view = desk_view g.D.Desk.has_place g.D.Desk.holds g.D.Desk.dials g.D.Desk.folder_faults g.D.Desk.dial_faults in
    let told = not_taken {F = Synced} c.in-Err.fault c.fault_of_folder.result (view c.args.desk.now) (view c.check_marker.new.self) c.fault_of_folder.ensures.value c.in-Err.ensures.faults c.check_marker.ensures.stays.0
    c.check_marker.ensures.stays.1 c.check_marker.ensures.stays.2 c.check_marker.ensures.stays.3 in
    record {
      value = not_put c.args.synced c.fault_of_folder.result (view c.args.desk.now) (view c.check_marker.new.self) told.0;
      faults = told.1;
    }
