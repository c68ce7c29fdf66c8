-- The folder is full, or is synced.
use Rattle.std.proofs.Common.{refl}
use Rattle.remote_calls.specs.Exchange.{link_view}
use Rattle.client_desk.proofs.KeptLemmas.{free_as}
use Rattle.client_commands.specs.JobSyncs.{failed}
use Rattle.client_commands.specs.Views.{desk_view, dial_view, own_view}
use Rattle.client_commands.proofs.FolderLemmas.{begins_none, was_full, was_wanted}
use Rattle.client_commands.proofs.KeepLemmas.{folder_kept, kept_after, kept_looked}
use Rattle.client_commands.proofs.job_syncs.sync_open.Goals as goal

pub returns-in-Err : goal.returns-in-Err
returns-in-Err g c =
    let view = desk_view g.D.Desk.has_place g.D.Desk.holds g.D.Desk.dials g.D.Desk.folder_faults g.D.Desk.dial_faults in
    let own = own_view g.D.F.Folder.told g.D.F.Folder.faults in
    let links = dial_view (link_view g.D.N.L.Link.left g.D.N.L.Link.taken g.D.N.L.Link.given g.D.N.L.Link.asked g.D.N.L.Link.faults) g.D.N.Dial.back g.D.N.Dial.dialled in
    let shows = g.C.Clock.shows c.args.clock.now in
    record {
      value = failed c.fault_of_folder.result (free_as c.in-Err.fault c.fault_of_folder.result c.fault_of_folder.ensures.value) refl
          (begins_none c.args.index.now (g.D.F.Folder.told c.args.folder.now) (g.D.F.Folder.told c.is_unwanted.new.folder) (g.D.Desk.dials c.args.desk.now) c.is_unwanted.ensures.stays);
      faults = folder_kept c.in-Err.fault c.fault_of_folder.result (own c.args.folder.now) (own c.is_unwanted.new.folder) (view c.args.desk.now) c.fault_of_folder.ensures.value c.in-Err.ensures.faults;
      stays = refl;
    }

pub returns-then-unwanted : goal.returns-then-unwanted
returns-then-unwanted g c =
    let view = desk_view g.D.Desk.has_place g.D.Desk.holds g.D.Desk.dials g.D.Desk.folder_faults g.D.Desk.dial_faults in
    let own = own_view g.D.F.Folder.told g.D.F.Folder.faults in
    let links = dial_view (link_view g.D.N.L.Link.left g.D.N.L.Link.taken g.D.N.L.Link.given g.D.N.L.Link.asked g.D.N.L.Link.faults) g.D.N.Dial.back g.D.N.Dial.dialled in
    let shows = g.C.Clock.shows c.args.clock.now in
    record {
      value = was_full links shows c.args.wanted c.args.job.now c.args.index.now (g.D.F.Folder.told c.args.folder.now) (g.D.F.Folder.told c.is_unwanted.new.folder) (g.D.Desk.dials c.args.desk.now)
          c.in-Ok.unwanted c.is_unwanted.ensures.stays c.in-Ok.ensures.value c.in-Ok.ensures.any c.if-unwanted.true;
      faults = kept_after (own c.args.folder.now) (own c.is_unwanted.new.folder) (view c.args.desk.now) c.in-Ok.ensures.faults;
      stays = refl;
    }

pub returns : goal.returns
returns g c =
    let view = desk_view g.D.Desk.has_place g.D.Desk.holds g.D.Desk.dials g.D.Desk.folder_faults g.D.Desk.dial_faults in
    let own = own_view g.D.F.Folder.told g.D.F.Folder.faults in
    let links = dial_view (link_view g.D.N.L.Link.left g.D.N.L.Link.taken g.D.N.L.Link.given g.D.N.L.Link.asked g.D.N.L.Link.faults) g.D.N.Dial.back g.D.N.Dial.dialled in
    let shows = g.C.Clock.shows c.args.clock.now in
    record {
      value = was_wanted links shows c.args.wanted c.args.job.now c.args.index.now (g.D.F.Folder.told c.args.folder.now) (g.D.F.Folder.told c.is_unwanted.new.folder) (g.D.Desk.dials c.args.desk.now)
          c.in-Ok.unwanted c.is_unwanted.ensures.stays c.in-Ok.ensures.value c.sync_over.new.index (g.D.F.Folder.told c.sync_over.new.folder) (g.D.Desk.dials c.sync_over.new.desk) c.sync_over.result
          c.if-unwanted.false c.sync_over.ensures.value;
      faults = kept_looked (own c.args.folder.now) (own c.is_unwanted.new.folder) (own c.sync_over.new.folder) (view c.args.desk.now) (view c.sync_over.new.desk) c.sync_over.result
          c.in-Ok.ensures.faults c.sync_over.ensures.faults;
      stays = c.sync_over.ensures.stays;
    }
