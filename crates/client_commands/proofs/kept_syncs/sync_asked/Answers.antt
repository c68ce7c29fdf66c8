-- The list is read, and the job is one of it or a new one.
use Rattle.std.proofs.Common.{Err, refl, sym}
use Rattle.remote_calls.specs.Exchange.{link_view}
use Rattle.client_words.specs.declared.fault.Fault.TheVariants.{JobExists}
use Rattle.client_commands.specs.KeptSyncs.{unread_list}
use Rattle.client_commands.specs.Views.{desk_view, dial_view, own_view}
use Rattle.client_commands.proofs.KeepLemmas.{kept_looked, list_local, other_kept, own_kept}
use Rattle.client_commands.proofs.KeptSyncLemmas.{asked_fault, asked_listed, asked_new, due_exists, due_host, due_none, due_some}
use Rattle.client_commands.proofs.kept_syncs.sync_asked.Goals as goal

pub returns-in-Err : goal.returns-in-Err
returns-in-Err g c =
    let view = desk_view g.D.Desk.has_place g.D.Desk.holds g.D.Desk.dials g.D.Desk.folder_faults g.D.Desk.dial_faults in
    let own = own_view g.D.F.Folder.told g.D.F.Folder.faults in
    record {
      value = unread_list c.in-Err.fault (λ held told. c.in-Err.ensures.value held told) (record { is = refl; own_stays = c.jobs_in.ensures.stays; desk_stays = refl });
      faults = own_kept (own c.args.conf.now) (own c.jobs_in.new.conf) (view c.args.desk.now) (view c.args.desk.now) (Err c.in-Err.fault) c.in-Err.ensures.faults
          (list_local c.in-Err.fault c.in-Err.ensures.may) refl;
    }

pub returns-in-Err-job_due : goal.returns-in-Err-job_due
returns-in-Err-job_due g c =
    let view = desk_view g.D.Desk.has_place g.D.Desk.holds g.D.Desk.dials g.D.Desk.folder_faults g.D.Desk.dial_faults in
    let own = own_view g.D.F.Folder.told g.D.F.Folder.faults in
    let links = dial_view (link_view g.D.N.L.Link.left g.D.N.L.Link.taken g.D.N.L.Link.given g.D.N.L.Link.asked g.D.N.L.Link.faults) g.D.N.Dial.back g.D.N.Dial.dialled in
    let shows = g.C.Clock.shows c.args.clock.now in
    record {
      value = asked_fault links shows c.args.wanted c.args.asked c.in-Ok.jobs c.slice.result.now (g.D.F.Folder.told c.args.conf.now) (g.D.F.Folder.told c.jobs_in.new.conf)
          (g.D.F.Folder.told c.jobs_in.new.conf) (view c.args.desk.now) (view c.args.desk.now) _ (λ held told. c.in-Ok.ensures.value held told) c.slice.ensures.value c.in-Err-job_due.fault
          (sym c.in-Err-job_due.ensures.value) refl c.jobs_in.ensures.stays refl;
      faults = other_kept (own c.args.conf.now) (own c.jobs_in.new.conf) (view c.args.desk.now) c.in-Err-job_due.fault JobExists
          (due_exists c.slice.result.now c.args.asked c.in-Err-job_due.fault (sym c.in-Err-job_due.ensures.value)) refl refl c.in-Ok.ensures.faults;
    }

pub sync_listed-requires : goal.sync_listed-requires
sync_listed-requires g c = record {
  name = due_host c.in-Ok.jobs c.slice.result.now c.args.asked c.in-Some.job.now c.in-Ok.ensures.proper c.slice.ensures.value
      (due_some c.in-Ok-job_due.found c.in-Some.job (λ j. j.now) _ c.in-Ok-job_due.ensures.value c.in-Some.is);
}

pub returns-in-Some : goal.returns-in-Some
returns-in-Some g c =
    let view = desk_view g.D.Desk.has_place g.D.Desk.holds g.D.Desk.dials g.D.Desk.folder_faults g.D.Desk.dial_faults in
    let own = own_view g.D.F.Folder.told g.D.F.Folder.faults in
    let links = dial_view (link_view g.D.N.L.Link.left g.D.N.L.Link.taken g.D.N.L.Link.given g.D.N.L.Link.asked g.D.N.L.Link.faults) g.D.N.Dial.back g.D.N.Dial.dialled in
    let shows = g.C.Clock.shows c.args.clock.now in
    record {
      value = asked_listed links shows c.args.wanted c.args.asked c.in-Ok.jobs c.slice.result.now (g.D.F.Folder.told c.args.conf.now) (g.D.F.Folder.told c.jobs_in.new.conf)
          (g.D.F.Folder.told c.sync_listed.new.conf) (view c.args.desk.now) (view c.sync_listed.new.desk) c.sync_listed.result (λ held told. c.in-Ok.ensures.value held told) c.slice.ensures.value
          c.in-Some.job.now (due_some c.in-Ok-job_due.found c.in-Some.job (λ j. j.now) _ c.in-Ok-job_due.ensures.value c.in-Some.is) c.jobs_in.ensures.stays c.sync_listed.ensures.value;
      faults = kept_looked (own c.args.conf.now) (own c.jobs_in.new.conf) (own c.sync_listed.new.conf) (view c.args.desk.now) (view c.sync_listed.new.desk) c.sync_listed.result
          c.in-Ok.ensures.faults c.sync_listed.ensures.faults;
    }

pub returns : goal.returns
returns g c =
    let view = desk_view g.D.Desk.has_place g.D.Desk.holds g.D.Desk.dials g.D.Desk.folder_faults g.D.Desk.dial_faults in
    let own = own_view g.D.F.Folder.told g.D.F.Folder.faults in
    let links = dial_view (link_view g.D.N.L.Link.left g.D.N.L.Link.taken g.D.N.L.Link.given g.D.N.L.Link.asked g.D.N.L.Link.faults) g.D.N.Dial.back g.D.N.Dial.dialled in
    let shows = g.C.Clock.shows c.args.clock.now in
    record {
      value = asked_new links shows c.args.wanted c.args.asked c.in-Ok.jobs c.slice.result.now (g.D.F.Folder.told c.args.conf.now) (g.D.F.Folder.told c.jobs_in.new.conf)
          (g.D.F.Folder.told c.sync_new.new.conf) (view c.args.desk.now) (view c.sync_new.new.desk) c.sync_new.result (λ held told. c.in-Ok.ensures.value held told) c.slice.ensures.value
          (due_none c.in-Ok-job_due.found (λ j. j.now) _ c.in-Ok-job_due.ensures.value c.in_default.is) c.jobs_in.ensures.stays c.sync_new.ensures.value;
      faults = kept_looked (own c.args.conf.now) (own c.jobs_in.new.conf) (own c.sync_new.new.conf) (view c.args.desk.now) (view c.sync_new.new.desk) c.sync_new.result
          c.in-Ok.ensures.faults c.sync_new.ensures.faults;
    }
