-- Nothing that is told of the desk is changed.
use Rattle.client_commands.specs.Views.{desk_view}
use Rattle.client_commands.proofs.FolderLemmas.{view_same}
use Rattle.client_commands.proofs.folders.take_marker.Goals as goal

pub returns-in-Ok : goal.returns-in-Ok
returns-in-Ok g c =
    let view = desk_view g.D.Desk.has_place g.D.Desk.holds g.D.Desk.dials g.D.Desk.folder_faults g.D.Desk.dial_faults in
    let stays = c.take_marker.ensures.stays in
    record { same = view_same (view c.args.desk.now) (view c.take_marker.new.self) stays.0 stays.1 stays.2 stays.3 stays.4 }
