-- A job's folder is synced while the client's own is out.
use Rattle.std.proofs.Common.{refl}
use Rattle.client_commands.specs.Folders.{unopened}
use Rattle.remote_calls.specs.Exchange.{link_view}
use Rattle.client_commands.specs.KeptSyncs.{SyncsOwn}
use Rattle.client_commands.specs.Views.{desk_view, dial_view, own_view}
use Rattle.client_commands.proofs.FolderLemmas.{with_own}
use Rattle.client_commands.proofs.KeepLemmas.{kept_err, kept_out, still_found}
use Rattle.client_commands.proofs.commands.sync_at.Goals as goal

pub give_folder-requires : goal.give_folder-requires
give_folder-requires g c = record { found = still_found _ _ _ c.args.conf.now c.in-Ok.ensures.told.found c.in-Ok.ensures.told.places c.sync_asked-synced.ensures.faults.fell.places }

pub returns-in-Err-clause-value : goal.returns-in-Err-clause-value
returns-in-Err-clause-value g c = unopened c.in-Err.fault refl c.in-Err.ensures.told.0

pub returns-in-Err-clause-faults : goal.returns-in-Err-clause-faults
returns-in-Err-clause-faults g c =
    let view = desk_view g.D.Desk.has_place g.D.Desk.holds g.D.Desk.dials g.D.Desk.folder_faults g.D.Desk.dial_faults in
    kept_err (view c.args.desk.now) (view c.take_folder.new.desk) c.in-Err.fault c.in-Err.ensures.told.1

pub returns-clause-value : goal.returns-clause-value
returns-clause-value g c =
    let view = desk_view g.D.Desk.has_place g.D.Desk.holds g.D.Desk.dials g.D.Desk.folder_faults g.D.Desk.dial_faults in
    let own = own_view g.D.F.Folder.told g.D.F.Folder.faults in
    let links = dial_view (link_view g.D.N.L.Link.left g.D.N.L.Link.taken g.D.N.L.Link.given g.D.N.L.Link.asked g.D.N.L.Link.faults) g.D.N.Dial.back g.D.N.Dial.dialled in
    let shows = g.C.Clock.shows c.args.clock.now in
    with_own c.args.conf.now (own c.in-Ok.folder) (own c.sync_asked-synced.new.conf) (view c.args.desk.now) (view c.take_folder.new.desk) (view c.sync_asked-synced.new.desk) (view c.give_folder.new.desk)
    c.in-Ok.ensures.told c.give_folder.ensures.after (SyncsOwn links shows c.args.wanted c.args.asked) c.sync_asked-synced.result c.sync_asked-synced.ensures.value

pub returns-clause-faults : goal.returns-clause-faults
returns-clause-faults g c =
    let view = desk_view g.D.Desk.has_place g.D.Desk.holds g.D.Desk.dials g.D.Desk.folder_faults g.D.Desk.dial_faults in
    let own = own_view g.D.F.Folder.told g.D.F.Folder.faults in
    kept_out c.args.conf.now (own c.in-Ok.folder) (own c.sync_asked-synced.new.conf) (view c.args.desk.now) (view c.take_folder.new.desk) (view c.sync_asked-synced.new.desk) (view c.give_folder.new.desk)
    c.in-Ok.ensures.told c.give_folder.ensures.after c.sync_asked-synced.result c.sync_asked-synced.ensures.faults
