-- The list is begun while the folder is out.
use Rattle.std.proofs.Common.{refl}
use Rattle.client_desk.specs.Commands.{IsInitFault}
use Rattle.client_commands.specs.Folders.{unopened}
use Rattle.client_commands.specs.Runs.{InitDoes}
use Rattle.client_commands.specs.Views.{desk_view, own_view}
use Rattle.client_commands.proofs.FolderLemmas.{own_command}
use Rattle.client_commands.proofs.KeepLemmas.{init_may, kept_err, kept_out, own_kept, still_found}
use Rattle.client_commands.proofs.commands.init_at.Goals as goal

pub give_folder-requires : goal.give_folder-requires
give_folder-requires g c = record { found = still_found _ _ _ c.args.conf.now c.in-Ok.ensures.told.found c.in-Ok.ensures.told.places refl }

pub returns-in-Err-clause-value : goal.returns-in-Err-clause-value
returns-in-Err-clause-value g c = unopened c.in-Err.fault refl c.in-Err.ensures.told.0

pub returns-in-Err-clause-faults : goal.returns-in-Err-clause-faults
returns-in-Err-clause-faults g c =
    let view = desk_view g.D.Desk.has_place g.D.Desk.holds g.D.Desk.dials g.D.Desk.folder_faults g.D.Desk.dial_faults in
    kept_err (view c.args.desk.now) (view c.take_folder.new.desk) c.in-Err.fault c.in-Err.ensures.told.1

pub returns-clause-value : goal.returns-clause-value
returns-clause-value g c =
    let view = desk_view g.D.Desk.has_place g.D.Desk.holds g.D.Desk.dials g.D.Desk.folder_faults g.D.Desk.dial_faults in
    let own = own_view g.D.F.Folder.told g.D.F.Folder.faults in
    own_command c.args.conf.now (own c.in-Ok.folder) (own c.init-done.new.conf) (view c.args.desk.now) (view c.take_folder.new.desk) (view c.take_folder.new.desk) (view c.give_folder.new.desk)
    c.in-Ok.ensures.told c.give_folder.ensures.after IsInitFault InitDoes c.init-done.result refl c.init-done.ensures.may (λ held told. c.init-done.ensures.value held told)

pub returns-clause-faults : goal.returns-clause-faults
returns-clause-faults g c =
    let view = desk_view g.D.Desk.has_place g.D.Desk.holds g.D.Desk.dials g.D.Desk.folder_faults g.D.Desk.dial_faults in
    let own = own_view g.D.F.Folder.told g.D.F.Folder.faults in
    kept_out c.args.conf.now (own c.in-Ok.folder) (own c.init-done.new.conf) (view c.args.desk.now) (view c.take_folder.new.desk) (view c.take_folder.new.desk) (view c.give_folder.new.desk)
    c.in-Ok.ensures.told c.give_folder.ensures.after c.init-done.result
    (own_kept (own c.in-Ok.folder) (own c.init-done.new.conf) (view c.take_folder.new.desk) (view c.take_folder.new.desk) c.init-done.result c.init-done.ensures.faults (init_may c.init-done.result c.init-done.ensures.may) refl)
