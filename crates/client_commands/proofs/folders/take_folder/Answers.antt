-- The folder was handed out, or it was not.
use Rattle.client_commands.specs.Views.{desk_view}
use Rattle.client_commands.proofs.FolderLemmas.{not_taken}
use Rattle.client_commands.proofs.folders.take_folder.Goals as goal

pub returns-in-Err : goal.returns-in-Err
returns-in-Err g c =
    let view = desk_view g.D.Desk.has_place g.D.Desk.holds g.D.Desk.dials g.D.Desk.folder_faults g.D.Desk.dial_faults in
    record {
      told = not_taken c.in-Err.fault c.fault_of_folder.result (view c.args.desk.now) (view c.folder.new.self) c.fault_of_folder.ensures.value c.in-Err.ensures.faults c.folder.ensures.stays.0 c.in-Err.ensures.err
          c.folder.ensures.stays.1 c.folder.ensures.stays.2;
    }
