-- The job's folder goes out and comes back.
use Rattle.std.proofs.Common.{refl}
use Rattle.remote_calls.specs.Exchange.{link_view}
use Rattle.client_commands.specs.Views.{desk_view, dial_view, own_view}
use Rattle.client_commands.proofs.FolderLemmas.{untaken, unworked, works_out}
use Rattle.client_commands.proofs.KeepLemmas.{desk_same, kept_err, kept_out, still_found}
use Rattle.client_commands.proofs.job_syncs.sync_folder.Goals as goal

pub give_folder-requires : goal.give_folder-requires
give_folder-requires g c = record {
  found = still_found _ _ _ c.args.job.now.dir c.in-Ok-take_folder.ensures.told.found c.in-Ok-take_folder.ensures.told.places c.sync_open-synced.ensures.faults.fell.places;
}

pub returns-in-Err : goal.returns-in-Err
returns-in-Err g c =
    let view = desk_view g.D.Desk.has_place g.D.Desk.holds g.D.Desk.dials g.D.Desk.folder_faults g.D.Desk.dial_faults in
    let links = dial_view (link_view g.D.N.L.Link.left g.D.N.L.Link.taken g.D.N.L.Link.given g.D.N.L.Link.asked g.D.N.L.Link.faults) g.D.N.Dial.back g.D.N.Dial.dialled in
    let shows = g.C.Clock.shows c.args.clock.now in
    record {
      value = unworked links shows c.args.wanted c.args.job.now c.args.index.now (view c.args.desk.now);
      faults = desk_same (view c.args.desk.now);
    }

pub returns-in-Err-take_folder : goal.returns-in-Err-take_folder
returns-in-Err-take_folder g c =
    let view = desk_view g.D.Desk.has_place g.D.Desk.holds g.D.Desk.dials g.D.Desk.folder_faults g.D.Desk.dial_faults in
    let links = dial_view (link_view g.D.N.L.Link.left g.D.N.L.Link.taken g.D.N.L.Link.given g.D.N.L.Link.asked g.D.N.L.Link.faults) g.D.N.Dial.back g.D.N.Dial.dialled in
    let shows = g.C.Clock.shows c.args.clock.now in
    record {
      value = untaken links shows c.args.wanted c.args.job.now c.args.index.now (view c.args.desk.now) (view c.take_folder.new.desk) c.in-Err-take_folder.fault c.in-Err-take_folder.ensures.told.0;
      faults = kept_err (view c.args.desk.now) (view c.take_folder.new.desk) c.in-Err-take_folder.fault c.in-Err-take_folder.ensures.told.1;
    }

pub returns : goal.returns
returns g c =
    let view = desk_view g.D.Desk.has_place g.D.Desk.holds g.D.Desk.dials g.D.Desk.folder_faults g.D.Desk.dial_faults in
    let own = own_view g.D.F.Folder.told g.D.F.Folder.faults in
    let links = dial_view (link_view g.D.N.L.Link.left g.D.N.L.Link.taken g.D.N.L.Link.given g.D.N.L.Link.asked g.D.N.L.Link.faults) g.D.N.Dial.back g.D.N.Dial.dialled in
    let shows = g.C.Clock.shows c.args.clock.now in
    record {
      value = works_out c.args.job.now.dir (own c.in-Ok-take_folder.folder) (own c.sync_open-synced.new.folder) (view c.args.desk.now) (view c.take_folder.new.desk) (view c.sync_open-synced.new.desk)
          (view c.give_folder.new.desk) c.in-Ok-take_folder.ensures.told c.give_folder.ensures.after links shows c.args.wanted c.args.job.now c.args.index.now c.sync_open-synced.new.index
          c.sync_open-synced.result refl c.sync_open-synced.ensures.stays c.sync_open-synced.ensures.value;
      faults = kept_out c.args.job.now.dir (own c.in-Ok-take_folder.folder) (own c.sync_open-synced.new.folder) (view c.args.desk.now) (view c.take_folder.new.desk) (view c.sync_open-synced.new.desk)
          (view c.give_folder.new.desk) c.in-Ok-take_folder.ensures.told c.give_folder.ensures.after c.sync_open-synced.result c.sync_open-synced.ensures.faults;
    }
