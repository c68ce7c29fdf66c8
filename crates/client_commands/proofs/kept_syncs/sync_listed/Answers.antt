-- The index is read, the folder synced, and the index put again.
use Rattle.std.proofs.Common.{Err, Ok, refl}
use Rattle.remote_calls.specs.Exchange.{link_view}
use Rattle.client_commands.specs.KeptSyncs.{unread_index, worked}
use Rattle.client_commands.specs.Views.{desk_view, dial_view, own_view}
use Rattle.client_commands.proofs.FolderLemmas.{works_behind}
use Rattle.client_commands.proofs.KeepLemmas.{desk_kept, index_local, marker_kept, own_kept, put_fault, put_kept}
use Rattle.client_commands.proofs.KeptSyncLemmas.{index_behind, kept_index, kept_index_free}
use Rattle.client_commands.proofs.kept_syncs.sync_listed.Goals as goal

pub returns-in-Err : goal.returns-in-Err
returns-in-Err g c =
    let view = desk_view g.D.Desk.has_place g.D.Desk.holds g.D.Desk.dials g.D.Desk.folder_faults g.D.Desk.dial_faults in
    let own = own_view g.D.F.Folder.told g.D.F.Folder.faults in
    record {
      value = unread_index c.in-Err.fault refl (λ held told. c.in-Err.ensures.value held told) c.index_in.ensures.stays refl;
      faults = own_kept (own c.args.conf.now) (own c.index_in.new.conf) (view c.args.desk.now) (view c.args.desk.now) (Err c.in-Err.fault) c.in-Err.ensures.faults
          (index_local c.in-Err.fault c.in-Err.ensures.may) refl;
    }

pub returns-in-Err-sync_folder : goal.returns-in-Err-sync_folder
returns-in-Err-sync_folder g c =
    let view = desk_view g.D.Desk.has_place g.D.Desk.holds g.D.Desk.dials g.D.Desk.folder_faults g.D.Desk.dial_faults in
    let own = own_view g.D.F.Folder.told g.D.F.Folder.faults in
    record {
      value = worked c.in-Ok.index c.sync_folder.new.index (Err c.in-Err-sync_folder.fault) c.in-Ok.ensures.library c.in-Ok.ensures.proper (λ held told. c.in-Ok.ensures.value held told) c.in-Err-sync_folder.ensures.value
          (refl, c.index_in.ensures.stays);
      faults = desk_kept (own c.args.conf.now) (own c.index_in.new.conf) (view c.args.desk.now) (view c.sync_folder.new.desk) (Err c.in-Err-sync_folder.fault) c.in-Ok.ensures.faults
          c.in-Err-sync_folder.ensures.faults;
    }

pub returns-in-Ok-put_index : goal.returns-in-Ok-put_index
returns-in-Ok-put_index g c =
    let view = desk_view g.D.Desk.has_place g.D.Desk.holds g.D.Desk.dials g.D.Desk.folder_faults g.D.Desk.dial_faults in
    let own = own_view g.D.F.Folder.told g.D.F.Folder.faults in
    let links = dial_view (link_view g.D.N.L.Link.left g.D.N.L.Link.taken g.D.N.L.Link.given g.D.N.L.Link.asked g.D.N.L.Link.faults) g.D.N.Dial.back g.D.N.Dial.dialled in
    let shows = g.C.Clock.shows c.args.clock.now in
    let marker = c.told_of_marker.ensures.value in
    record {
      value = worked c.in-Ok.index c.sync_folder.new.index (Ok c.in-Ok-sync_folder.synced) c.in-Ok.ensures.library c.in-Ok.ensures.proper (λ held told. c.in-Ok.ensures.value held told)
          (works_behind links shows c.args.wanted c.args.job.now c.in-Ok.index c.sync_folder.new.index (view c.args.desk.now) (view c.sync_folder.new.desk) (view c.told_of_marker.new.desk)
          (Ok c.in-Ok-sync_folder.synced) marker.holds marker.dials c.in-Ok-sync_folder.ensures.value)
          (index_behind c.sync_folder.new.index c.in-Ok-sync_folder.synced (g.D.F.Folder.told c.args.conf.now) (g.D.F.Folder.told c.put_index.new.conf) c.told_of_marker.result marker.same marker.free
          (kept_index c.sync_folder.new.index c.in-Ok-sync_folder.synced (g.D.F.Folder.told c.args.conf.now) (g.D.F.Folder.told c.index_in.new.conf) (g.D.F.Folder.told c.put_index.new.conf)
          c.index_in.ensures.stays c.in-Ok-put_index.ensures.reads_back c.in-Ok-put_index.ensures.value));
      faults = marker_kept (own c.args.conf.now) (own c.put_index.new.conf) (view c.args.desk.now) (view c.sync_folder.new.desk) (view c.told_of_marker.new.desk) c.in-Ok-sync_folder.synced c.told_of_marker.result
          (put_kept (own c.args.conf.now) (own c.index_in.new.conf) (own c.put_index.new.conf) (view c.args.desk.now) (view c.sync_folder.new.desk) c.in-Ok-sync_folder.synced c.in-Ok.ensures.faults
          c.in-Ok-sync_folder.ensures.faults c.in-Ok-put_index.ensures.faults)
          c.told_of_marker.ensures.faults;
    }

pub returns : goal.returns
returns g c =
    let view = desk_view g.D.Desk.has_place g.D.Desk.holds g.D.Desk.dials g.D.Desk.folder_faults g.D.Desk.dial_faults in
    let own = own_view g.D.F.Folder.told g.D.F.Folder.faults in
    record {
      value = worked c.in-Ok.index c.sync_folder.new.index (Ok c.in-Ok-sync_folder.synced) c.in-Ok.ensures.library c.in-Ok.ensures.proper (λ held told. c.in-Ok.ensures.value held told) c.in-Ok-sync_folder.ensures.value
          (kept_index_free c.sync_folder.new.index c.in-Ok-sync_folder.synced (g.D.F.Folder.told c.args.conf.now) (g.D.F.Folder.told c.index_in.new.conf) (g.D.F.Folder.told c.put_index.new.conf)
          c.index_in.ensures.stays c.in-Err-put_index.fault c.in-Err-put_index.ensures.value c.in-Err-put_index.ensures.free);
      faults = put_fault (own c.args.conf.now) (own c.index_in.new.conf) (own c.put_index.new.conf) (view c.args.desk.now) (view c.sync_folder.new.desk) c.in-Ok-sync_folder.synced c.in-Err-put_index.fault
          c.in-Ok.ensures.faults c.in-Ok-sync_folder.ensures.faults c.in-Err-put_index.ensures.faults c.in-Err-put_index.ensures.free;
    }
