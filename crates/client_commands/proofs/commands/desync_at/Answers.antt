-- The job is taken while the folder is out.
use Rattle.std.proofs.Common.{refl}
use Rattle.client_desk.specs.Commands.{IsDesyncFault}
use Rattle.client_commands.specs.Folders.{unopened}
use Rattle.client_commands.specs.Runs.{DesyncDoes}
use Rattle.client_commands.specs.Views.{desk_view, own_view}
use Rattle.client_commands.proofs.FolderLemmas.{own_command, same_places}
use Rattle.client_commands.proofs.KeepLemmas.{desync_may, kept_err, kept_out, own_kept, still_found}
use Rattle.client_commands.proofs.commands.desync_at.Goals as goal

pub give_folder-requires : goal.give_folder-requires
give_folder-requires g c =
    let view = desk_view g.D.Desk.has_place g.D.Desk.holds g.D.Desk.dials g.D.Desk.folder_faults g.D.Desk.dial_faults in
    record {
      found = still_found _ _ _ c.args.conf.now c.in-Ok.ensures.told.found c.in-Ok.ensures.told.places (same_places (view c.take_folder.new.desk) (view c.take_marker.new.desk) c.take_marker.ensures.same);
    }

pub returns-in-Err-clause-value : goal.returns-in-Err-clause-value
returns-in-Err-clause-value g c = unopened c.in-Err.fault refl c.in-Err.ensures.told.0

pub returns-in-Err-clause-faults : goal.returns-in-Err-clause-faults
returns-in-Err-clause-faults g c =
    let view = desk_view g.D.Desk.has_place g.D.Desk.holds g.D.Desk.dials g.D.Desk.folder_faults g.D.Desk.dial_faults in
    kept_err (view c.args.desk.now) (view c.take_folder.new.desk) c.in-Err.fault c.in-Err.ensures.told.1

pub returns-clause-value : goal.returns-clause-value
returns-clause-value g c =
    let view = desk_view g.D.Desk.has_place g.D.Desk.holds g.D.Desk.dials g.D.Desk.folder_faults g.D.Desk.dial_faults in
    let own = own_view g.D.F.Folder.told g.D.F.Folder.faults in
    own_command c.args.conf.now (own c.in-Ok.folder) (own c.desync-done.new.conf) (view c.args.desk.now) (view c.take_folder.new.desk) (view c.take_marker.new.desk) (view c.give_folder.new.desk)
    c.in-Ok.ensures.told c.give_folder.ensures.after IsDesyncFault (DesyncDoes c.args.dir.now) c.desync-done.result c.take_marker.ensures.same c.desync-done.ensures.may (λ held told. c.desync-done.ensures.value held told)

pub returns-clause-faults : goal.returns-clause-faults
returns-clause-faults g c =
    let view = desk_view g.D.Desk.has_place g.D.Desk.holds g.D.Desk.dials g.D.Desk.folder_faults g.D.Desk.dial_faults in
    let own = own_view g.D.F.Folder.told g.D.F.Folder.faults in
    kept_out c.args.conf.now (own c.in-Ok.folder) (own c.desync-done.new.conf) (view c.args.desk.now) (view c.take_folder.new.desk) (view c.take_marker.new.desk) (view c.give_folder.new.desk)
    c.in-Ok.ensures.told c.give_folder.ensures.after c.desync-done.result
    (own_kept (own c.in-Ok.folder) (own c.desync-done.new.conf) (view c.take_folder.new.desk) (view c.take_marker.new.desk) c.desync-done.result c.desync-done.ensures.faults (desync_may c.desync-done.result c.desync-done.ensures.may)
    c.take_marker.ensures.same)
