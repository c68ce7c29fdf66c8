-- The folder goes out, is looked at, and comes back.
use Rattle.std.proofs.Common.{inl, refl, ◌∙◌}
use Rattle.client_commands.specs.SyncFaults.{told_of_scan}
use Rattle.client_commands.specs.Views.{desk_view, own_view}
use Rattle.client_commands.proofs.FolderLemmas.{all_same}
use Rattle.client_commands.proofs.KeepLemmas.{kept_err, kept_out, scan_kept, still_found}
use Rattle.client_commands.proofs.StatusLemmas.{scan_told}
use Rattle.client_commands.proofs.statuses.compare.Goals as goal

pub give_folder-requires : goal.give_folder-requires
give_folder-requires g c = record { found = still_found _ _ _ c.args.job.now.dir c.in-Ok.ensures.told.found c.in-Ok.ensures.told.places refl }

pub returns-in-Err : goal.returns-in-Err
returns-in-Err g c =
    let view = desk_view g.D.Desk.has_place g.D.Desk.holds g.D.Desk.dials g.D.Desk.folder_faults g.D.Desk.dial_faults in
    let lacks = c.in-Err.ensures.told.0 in
    record {
      value = inl lacks.free;
      same = record { dials = lacks.dials; holds = λ dir. λ i. lacks.holds i dir };
      faults = kept_err (view c.args.desk.now) (view c.take_folder.new.desk) c.in-Err.fault c.in-Err.ensures.told.1;
    }

pub returns : goal.returns
returns g c =
    let view = desk_view g.D.Desk.has_place g.D.Desk.holds g.D.Desk.dials g.D.Desk.folder_faults g.D.Desk.dial_faults in
    let own = own_view g.D.F.Folder.told g.D.F.Folder.faults in
    let takes = c.in-Ok.ensures.told in
    let gives = c.give_folder.ensures.after in
    record {
      value = rw c.told_of_scan.ensures.value
          (scan_told (g.D.Desk.holds c.args.desk.now c.args.job.now.dir) (g.D.F.Folder.told c.in-Ok.folder) c.args.index.now c.is_clean-clean.result takes.told c.is_clean-clean.ensures.value);
      same = record {
        dials = gives.dials ∙ takes.dials;
        holds = all_same c.args.job.now.dir (own c.in-Ok.folder) (own c.is_clean-clean.new.folder) (view c.args.desk.now) (view c.take_folder.new.desk) (view c.take_folder.new.desk)
            (view c.give_folder.new.desk) takes gives refl c.is_clean-clean.ensures.stays;
      };
      faults = rw c.told_of_scan.ensures.value
          (kept_out c.args.job.now.dir (own c.in-Ok.folder) (own c.is_clean-clean.new.folder) (view c.args.desk.now) (view c.take_folder.new.desk) (view c.take_folder.new.desk)
          (view c.give_folder.new.desk) takes gives (told_of_scan c.is_clean-clean.result)
          (scan_kept (own c.in-Ok.folder) (own c.is_clean-clean.new.folder) (view c.take_folder.new.desk) c.is_clean-clean.result c.is_clean-clean.ensures.faults));
    }
