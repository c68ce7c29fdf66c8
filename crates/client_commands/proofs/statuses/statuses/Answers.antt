-- The list and its indexes are looked for, and then the folders are looked at.
use Rattle.std.proofs.Common.{Err, refl, ◌∙◌}
use Rattle.client_commands.specs.Views.{desk_view, own_view}
use Rattle.client_commands.proofs.KeepLemmas.{kept_looked, list_local, own_kept}
use Rattle.client_commands.proofs.StatusLemmas.{status_lacks, status_so, status_unlisted}
use Rattle.client_commands.proofs.statuses.statuses.Goals as goal

pub returns-in-Err : goal.returns-in-Err
returns-in-Err g c =
    let view = desk_view g.D.Desk.has_place g.D.Desk.holds g.D.Desk.dials g.D.Desk.folder_faults g.D.Desk.dial_faults in
    let own = own_view g.D.F.Folder.told g.D.F.Folder.faults in
    record {
      value = record {
        own_stays = c.jobs_in.ensures.stays;
        same = record { dials = refl; holds = λ dir. refl };
        tells = λ held told. status_unlisted (g.D.Desk.holds c.args.desk.now) held c.in-Err.fault _ (c.in-Err.ensures.value held told);
      };
      faults = own_kept (own c.args.conf.now) (own c.jobs_in.new.conf) (view c.args.desk.now) (view c.args.desk.now) (Err c.in-Err.fault) c.in-Err.ensures.faults
          (list_local c.in-Err.fault c.in-Err.ensures.may) refl;
    }

pub returns-in-Err-check_indexes : goal.returns-in-Err-check_indexes
returns-in-Err-check_indexes g c =
    let view = desk_view g.D.Desk.has_place g.D.Desk.holds g.D.Desk.dials g.D.Desk.folder_faults g.D.Desk.dial_faults in
    let own = own_view g.D.F.Folder.told g.D.F.Folder.faults in
    record {
      value = record {
        own_stays = c.check_indexes.ensures.stays ∙ c.jobs_in.ensures.stays;
        same = record { dials = refl; holds = λ dir. refl };
        tells = λ held told.
            status_lacks (g.D.Desk.holds c.args.desk.now) held c.in-Ok.jobs c.in-Err-check_indexes.fault _ (c.in-Ok.ensures.value held told)
            (rw c.slice.ensures.value at (c.in-Err-check_indexes.ensures.value held (c.jobs_in.ensures.stays ∙ told)));
      };
      faults = kept_looked (own c.args.conf.now) (own c.jobs_in.new.conf) (own c.check_indexes.new.conf) (view c.args.desk.now) (view c.args.desk.now) (Err c.in-Err-check_indexes.fault) c.in-Ok.ensures.faults
          (own_kept (own c.jobs_in.new.conf) (own c.check_indexes.new.conf) (view c.args.desk.now) (view c.args.desk.now) (Err c.in-Err-check_indexes.fault) c.in-Err-check_indexes.ensures.faults
          c.in-Err-check_indexes.ensures.may refl);
    }

pub returns : goal.returns
returns g c =
    let view = desk_view g.D.Desk.has_place g.D.Desk.holds g.D.Desk.dials g.D.Desk.folder_faults g.D.Desk.dial_faults in
    let own = own_view g.D.F.Folder.told g.D.F.Folder.faults in
    record {
      value = record {
        own_stays = c.job_lines.ensures.stays ∙ c.check_indexes.ensures.stays ∙ c.jobs_in.ensures.stays;
        same = c.job_lines.ensures.same;
        tells = λ held told.
            status_so (g.D.Desk.holds c.args.desk.now) held c.in-Ok.jobs c.job_lines.result _ (c.in-Ok.ensures.value held told)
            (rw c.slice.ensures.value at (c.in-Ok-check_indexes.ensures.value held (c.jobs_in.ensures.stays ∙ told)))
            (rw c.slice-2.ensures.value at (c.job_lines.ensures.value held (c.check_indexes.ensures.stays ∙ c.jobs_in.ensures.stays ∙ told)));
      };
      faults = kept_looked (own c.args.conf.now) (own c.check_indexes.new.conf) (own c.job_lines.new.conf) (view c.args.desk.now) (view c.job_lines.new.desk) c.job_lines.result
          (c.in-Ok-check_indexes.ensures.faults ∙ c.in-Ok.ensures.faults) c.job_lines.ensures.faults;
    }
