-- The index is read, and the folder looked at.
use Rattle.std.proofs.Common.{Err, refl}
use Rattle.client_commands.specs.Views.{desk_view, own_view}
use Rattle.client_commands.proofs.KeepLemmas.{desk_kept, index_local, own_err, own_kept}
use Rattle.client_commands.proofs.StatusLemmas.{line_so, line_stops, line_unread}
use Rattle.client_commands.proofs.statuses.job_line.Goals as goal

pub returns-in-Err : goal.returns-in-Err
returns-in-Err g c =
    let view = desk_view g.D.Desk.has_place g.D.Desk.holds g.D.Desk.dials g.D.Desk.folder_faults g.D.Desk.dial_faults in
    let own = own_view g.D.F.Folder.told g.D.F.Folder.faults in
    record {
      value = λ held told. line_unread (g.D.Desk.holds c.args.desk.now) held c.args.job.now c.in-Err.fault (c.in-Err.ensures.value held told);
      stays = c.index_in.ensures.stays;
      same = record { dials = refl; holds = λ dir. refl };
      faults = own_kept (own c.args.conf.now) (own c.index_in.new.conf) (view c.args.desk.now) (view c.args.desk.now) (Err c.in-Err.fault) c.in-Err.ensures.faults
          (index_local c.in-Err.fault c.in-Err.ensures.may) refl;
    }

pub returns-in-Ok-compare : goal.returns-in-Ok-compare
returns-in-Ok-compare g c =
    let view = desk_view g.D.Desk.has_place g.D.Desk.holds g.D.Desk.dials g.D.Desk.folder_faults g.D.Desk.dial_faults in
    let own = own_view g.D.F.Folder.told g.D.F.Folder.faults in
    record {
      value = λ held told. line_so (g.D.Desk.holds c.args.desk.now) held c.args.job.now c.in-Ok.index c.in-Ok-compare.clean c.clean_line.result (c.in-Ok.ensures.value held told) c.clean_line.ensures.value
          c.in-Ok-compare.ensures.value;
      stays = c.index_in.ensures.stays;
      same = c.compare.ensures.same;
      faults = record {
        fell = (desk_kept (own c.args.conf.now) (own c.index_in.new.conf) (view c.args.desk.now) (view c.compare.new.desk) c.compare.result c.in-Ok.ensures.faults c.compare.ensures.faults).fell;
        rose = tt;
      };
    }

pub returns : goal.returns
returns g c =
    let view = desk_view g.D.Desk.has_place g.D.Desk.holds g.D.Desk.dials g.D.Desk.folder_faults g.D.Desk.dial_faults in
    let own = own_view g.D.F.Folder.told g.D.F.Folder.faults in
    record {
      value = λ held told. line_stops (g.D.Desk.holds c.args.desk.now) held c.args.job.now c.in-Ok.index c.in-Err-compare.fault c.in-Err-compare.ensures.value;
      stays = c.index_in.ensures.stays;
      same = c.compare.ensures.same;
      faults = own_err (own c.args.conf.now) (own c.index_in.new.conf) (view c.args.desk.now) (view c.compare.new.desk) c.in-Err-compare.fault
          (desk_kept (own c.args.conf.now) (own c.index_in.new.conf) (view c.args.desk.now) (view c.compare.new.desk) (Err c.in-Err-compare.fault) c.in-Ok.ensures.faults c.in-Err-compare.ensures.faults);
    }
