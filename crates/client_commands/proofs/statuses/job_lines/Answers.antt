-- One line more.
use Rattle.std.proofs.Common.{◌∙◌, inl, refl, subst}
use Rattle.std.proofs.lemmas.List.{take_all}
use Rattle.client_commands.specs.Statuses.{TellJobs}
use Rattle.client_commands.specs.Views.{desk_view, own_view}
use Rattle.client_commands.proofs.KeepLemmas.{fell_none, fell_then, kept_then, memory_kept, own_err}
use Rattle.client_commands.proofs.StatusLemmas.{no_lines, same_then, stopped_at, told_more}
use Rattle.client_commands.proofs.statuses.job_lines.Goals as goal

pub loop-job-init : goal.loop-job-init
loop-job-init g c =
    let view = desk_view g.D.Desk.has_place g.D.Desk.holds g.D.Desk.dials g.D.Desk.folder_faults g.D.Desk.dial_faults in
    let own = own_view g.D.F.Folder.told g.D.F.Folder.faults in
    record {
      stays = refl;
      same = record { dials = refl; holds = λ dir. refl };
      fell = fell_none (own c.args.conf.now) (own c.args.conf.now) (view c.args.desk.now) (view c.args.desk.now) refl refl;
      told = λ held told. no_lines (g.D.Desk.holds c.args.desk.now) held c.new-lines.result c.new-lines.ensures.value;
    }

pub loop-job-preserved : goal.loop-job-preserved
loop-job-preserved g c =
    let view = desk_view g.D.Desk.has_place g.D.Desk.holds g.D.Desk.dials g.D.Desk.folder_faults g.D.Desk.dial_faults in
    let own = own_view g.D.F.Folder.told g.D.F.Folder.faults in
    let goes = c.loop-job.invariant in
    record {
      stays = c.job_line.ensures.stays ∙ goes.stays;
      same = same_then (view c.args.desk.now) (view c.loop-job.desk) (view c.job_line.new.desk) goes.same c.job_line.ensures.same;
      fell = fell_then (own c.args.conf.now) (own c.loop-job.conf) (own c.job_line.new.conf) (view c.args.desk.now) (view c.loop-job.desk) (view c.job_line.new.desk) goes.fell c.job_line.ensures.faults.fell;
      told = λ held told.
          told_more (g.D.Desk.holds c.args.desk.now) (g.D.Desk.holds c.loop-job.desk) held c.args.jobs.now c.loop-job.job-index c.job-item.result c.loop-job-test.true c.job-item.is goes.same.holds c.loop-job.lines
          (goes.told held told) c.push.new.self c.in-Ok.line (c.in-Ok.ensures.value held (goes.stays ∙ told)) c.in-Ok-push.ensures.ok;
    }

pub returns-in-Err : goal.returns-in-Err
returns-in-Err g c =
    let view = desk_view g.D.Desk.has_place g.D.Desk.holds g.D.Desk.dials g.D.Desk.folder_faults g.D.Desk.dial_faults in
    let own = own_view g.D.F.Folder.told g.D.F.Folder.faults in
    let goes = c.loop-job.invariant in
    record {
      value = λ held told.
          stopped_at (g.D.Desk.holds c.args.desk.now) (g.D.Desk.holds c.loop-job.desk) held c.args.jobs.now c.loop-job.job-index c.job-item.result c.loop-job-test.true c.job-item.is goes.same.holds c.loop-job.lines
          (goes.told held told) c.in-Err.fault (c.in-Err.ensures.value held (goes.stays ∙ told));
      stays = c.job_line.ensures.stays ∙ goes.stays;
      same = same_then (view c.args.desk.now) (view c.loop-job.desk) (view c.job_line.new.desk) goes.same c.job_line.ensures.same;
      faults = kept_then (own c.args.conf.now) (own c.loop-job.conf) (own c.job_line.new.conf) (view c.args.desk.now) (view c.loop-job.desk) (view c.job_line.new.desk) _ goes.fell
          (own_err (own c.loop-job.conf) (own c.job_line.new.conf) (view c.loop-job.desk) (view c.job_line.new.desk) c.in-Err.fault c.in-Err.ensures.faults);
    }

pub returns-in-Err-push : goal.returns-in-Err-push
returns-in-Err-push g c =
    let view = desk_view g.D.Desk.has_place g.D.Desk.holds g.D.Desk.dials g.D.Desk.folder_faults g.D.Desk.dial_faults in
    let own = own_view g.D.F.Folder.told g.D.F.Folder.faults in
    let goes = c.loop-job.invariant in
    record {
      value = λ held told. inl refl;
      stays = c.job_line.ensures.stays ∙ goes.stays;
      same = same_then (view c.args.desk.now) (view c.loop-job.desk) (view c.job_line.new.desk) goes.same c.job_line.ensures.same;
      faults = memory_kept (own c.args.conf.now) (own c.job_line.new.conf) (view c.args.desk.now) (view c.job_line.new.desk)
          (fell_then (own c.args.conf.now) (own c.loop-job.conf) (own c.job_line.new.conf) (view c.args.desk.now) (view c.loop-job.desk) (view c.job_line.new.desk) goes.fell c.job_line.ensures.faults.fell);
    }

pub returns : goal.returns
returns g c =
    let view = desk_view g.D.Desk.has_place g.D.Desk.holds g.D.Desk.dials g.D.Desk.folder_faults g.D.Desk.dial_faults in
    let own = own_view g.D.F.Folder.told g.D.F.Folder.faults in
    let goes = c.loop-job.invariant in
    record {
      value = λ held told. subst (λ js. TellJobs (g.D.Desk.holds c.args.desk.now) held js c.loop-job.lines) (take_all c.loop-job.job-index c.args.jobs.now c.loop-job-test.false) (goes.told held told);
      stays = goes.stays;
      same = goes.same;
      faults = record { fell = goes.fell; rose = tt };
    }
