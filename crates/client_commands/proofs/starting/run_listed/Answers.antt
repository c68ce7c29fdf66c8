-- The jobs are synced, or it is told why there are none.
use Rattle.std.proofs.Common.{Err, List, refl}
use Rattle.remote_calls.specs.Exchange.{link_view}
use Rattle.client_words.specs.declared.job.Job.{Job}
use Rattle.client_commands.specs.Starts.{ran, unlisted}
use Rattle.client_commands.specs.Views.{desk_view, dial_view, own_view, sink_view}
use Rattle.client_commands.proofs.KeepLemmas.{own_kept}
use Rattle.client_commands.proofs.StartLemmas.{same_start}
use Rattle.client_commands.proofs.starting.run_listed.Goals as goal

pub run_turns-requires : goal.run_turns-requires
run_turns-requires g c = record { proper = rw c.slice.ensures.value c.in-Ok.ensures.proper }

pub returns-in-Ok : goal.returns-in-Ok
returns-in-Ok g c =
    let view = desk_view g.D.Desk.has_place g.D.Desk.holds g.D.Desk.dials g.D.Desk.folder_faults g.D.Desk.dial_faults in
    let own = own_view g.D.F.Folder.told g.D.F.Folder.faults in
    let links = dial_view (link_view g.D.N.L.Link.left g.D.N.L.Link.taken g.D.N.L.Link.given g.D.N.L.Link.asked g.D.N.L.Link.faults) g.D.N.Dial.back g.D.N.Dial.dialled in
    let shows = g.C.Clock.shows c.args.clock.now in
    let seen = sink_view g.O.Sink.given g.O.Sink.faults in
    record {
      value = ran c.in-Ok.jobs (λ held told. c.in-Ok.ensures.value held told)
          (same_start links shows c.in-Ok.jobs c.args.turns c.run_turns.result (own c.args.conf.now) (own c.listed_jobs.new.conf) (view c.args.desk.now) (seen c.args.out.now)
          (record { own = own c.run_turns.new.conf; desk = view c.run_turns.new.desk; out = seen c.run_turns.new.out }) c.listed_jobs.ensures.stays c.in-Ok.ensures.faults
          (rw c.slice.ensures.value at c.run_turns.ensures.value));
      stays = c.run_turns.ensures.stays;
    }

pub returns-in-Err : goal.returns-in-Err
returns-in-Err g c =
    let view = desk_view g.D.Desk.has_place g.D.Desk.holds g.D.Desk.dials g.D.Desk.folder_faults g.D.Desk.dial_faults in
    let own = own_view g.D.F.Folder.told g.D.F.Folder.faults in
    record {
      value = unlisted c.in-Err.fault (λ held told. c.in-Err.ensures.value held told) c.listed_jobs.ensures.stays refl
          (own_kept {T = List Job} (own c.args.conf.now) (own c.listed_jobs.new.conf) (view c.args.desk.now) (view c.args.desk.now) (Err c.in-Err.fault) c.in-Err.ensures.faults
          c.in-Err.ensures.may refl) c.print_line.ensures.prints;
      stays = refl;
    }
