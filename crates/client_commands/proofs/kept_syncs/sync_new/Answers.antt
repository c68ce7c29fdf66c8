-- The folder is synced by an empty index, which is put, and then the list.
use Rattle.std.proofs.Common.{Err, Ok, refl}
use Rattle.remote_calls.specs.Exchange.{link_view}
use Rattle.client_commands.specs.Views.{desk_view, dial_view, own_view}
use Rattle.client_commands.proofs.FolderLemmas.{works_behind}
use Rattle.client_commands.proofs.KeepLemmas.{desk_kept, marker_kept, put_fault, put_kept}
use Rattle.client_commands.proofs.KeptSyncLemmas.{job_behind, kept_job, kept_job_free, lost_index, worked_new}
use Rattle.client_commands.proofs.kept_syncs.sync_new.Goals as goal

pub returns-in-Err : goal.returns-in-Err
returns-in-Err g c =
    let view = desk_view g.D.Desk.has_place g.D.Desk.holds g.D.Desk.dials g.D.Desk.folder_faults g.D.Desk.dial_faults in
    let own = own_view g.D.F.Folder.told g.D.F.Folder.faults in
    record {
      value = record {
        index = c.sync_folder.new.index;
        done = Err c.in-Err.failed;
        works = worked_new _ _ _ _ _ _ _ _ _ c.empty-index.ensures.value c.in-Err.ensures.value;
        keeps = (refl, refl);
      };
      faults = desk_kept (own c.args.conf.now) (own c.args.conf.now) (view c.args.desk.now) (view c.sync_folder.new.desk) (Err c.in-Err.failed) refl c.in-Err.ensures.faults;
    }

pub returns-in-Err-put_index : goal.returns-in-Err-put_index
returns-in-Err-put_index g c =
    let view = desk_view g.D.Desk.has_place g.D.Desk.holds g.D.Desk.dials g.D.Desk.folder_faults g.D.Desk.dial_faults in
    let own = own_view g.D.F.Folder.told g.D.F.Folder.faults in
    record {
      value = record {
        index = c.sync_folder.new.index;
        done = Ok c.in-Ok.synced;
        works = worked_new _ _ _ _ _ _ _ _ _ c.empty-index.ensures.value c.in-Ok.ensures.value;
        keeps = lost_index c.args.asked c.args.jobs c.sync_folder.new.index c.in-Ok.synced (g.D.F.Folder.told c.args.conf.now) (g.D.F.Folder.told c.put_index.new.conf) c.in-Err-put_index.fault
            c.in-Err-put_index.ensures.value c.in-Err-put_index.ensures.free;
      };
      faults = put_fault (own c.args.conf.now) (own c.args.conf.now) (own c.put_index.new.conf) (view c.args.desk.now) (view c.sync_folder.new.desk) c.in-Ok.synced c.in-Err-put_index.fault
          refl c.in-Ok.ensures.faults c.in-Err-put_index.ensures.faults c.in-Err-put_index.ensures.free;
    }

pub returns-in-Ok-add_job : goal.returns-in-Ok-add_job
returns-in-Ok-add_job g c =
    let view = desk_view g.D.Desk.has_place g.D.Desk.holds g.D.Desk.dials g.D.Desk.folder_faults g.D.Desk.dial_faults in
    let own = own_view g.D.F.Folder.told g.D.F.Folder.faults in
    let links = dial_view (link_view g.D.N.L.Link.left g.D.N.L.Link.taken g.D.N.L.Link.given g.D.N.L.Link.asked g.D.N.L.Link.faults) g.D.N.Dial.back g.D.N.Dial.dialled in
    let shows = g.C.Clock.shows c.args.clock.now in
    let marker = c.told_of_marker.ensures.value in
    record {
      value = record {
        index = c.sync_folder.new.index;
        done = Ok c.in-Ok.synced;
        works = works_behind links shows c.args.wanted c.args.asked _ c.sync_folder.new.index (view c.args.desk.now) (view c.sync_folder.new.desk) (view c.told_of_marker.new.desk) (Ok c.in-Ok.synced)
            marker.holds marker.dials (worked_new _ _ _ _ _ _ _ _ _ c.empty-index.ensures.value c.in-Ok.ensures.value);
        keeps = job_behind c.args.asked c.args.jobs c.sync_folder.new.index c.in-Ok.synced (g.D.F.Folder.told c.args.conf.now) (g.D.F.Folder.told c.add_job.new.conf) c.told_of_marker.result marker.same
            marker.free
            (kept_job c.args.asked c.args.jobs c.sync_folder.new.index c.in-Ok.synced (g.D.F.Folder.told c.args.conf.now) (g.D.F.Folder.told c.put_index.new.conf) (g.D.F.Folder.told c.add_job.new.conf)
            c.in_default.ensures.value c.in_default.ensures.reads_back c.in-Ok-add_job.ensures.value);
      };
      faults = marker_kept (own c.args.conf.now) (own c.add_job.new.conf) (view c.args.desk.now) (view c.sync_folder.new.desk) (view c.told_of_marker.new.desk) c.in-Ok.synced c.told_of_marker.result
          (put_kept (own c.args.conf.now) (own c.put_index.new.conf) (own c.add_job.new.conf) (view c.args.desk.now) (view c.sync_folder.new.desk) c.in-Ok.synced
          c.in_default.ensures.faults c.in-Ok.ensures.faults c.in-Ok-add_job.ensures.faults)
          c.told_of_marker.ensures.faults;
    }

pub returns : goal.returns
returns g c =
    let view = desk_view g.D.Desk.has_place g.D.Desk.holds g.D.Desk.dials g.D.Desk.folder_faults g.D.Desk.dial_faults in
    let own = own_view g.D.F.Folder.told g.D.F.Folder.faults in
    record {
      value = record {
        index = c.sync_folder.new.index;
        done = Ok c.in-Ok.synced;
        works = worked_new _ _ _ _ _ _ _ _ _ c.empty-index.ensures.value c.in-Ok.ensures.value;
        keeps = kept_job_free c.args.asked c.args.jobs c.sync_folder.new.index c.in-Ok.synced (g.D.F.Folder.told c.args.conf.now) (g.D.F.Folder.told c.put_index.new.conf)
            (g.D.F.Folder.told c.add_job.new.conf) c.in_default.ensures.value c.in-Err-add_job.fault c.in-Err-add_job.ensures.value c.in-Err-add_job.ensures.free;
      };
      faults = put_fault (own c.args.conf.now) (own c.put_index.new.conf) (own c.add_job.new.conf) (view c.args.desk.now) (view c.sync_folder.new.desk) c.in-Ok.synced c.in-Err-add_job.fault
          c.in_default.ensures.faults c.in-Ok.ensures.faults c.in-Err-add_job.ensures.faults c.in-Err-add_job.ensures.free;
    }
