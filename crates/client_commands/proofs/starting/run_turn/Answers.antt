-- One job more.
use Rattle.std.proofs.Common.{◌∙◌, refl}
use Rattle.remote_calls.specs.Exchange.{link_view}
use Rattle.client_commands.specs.Views.{desk_view, dial_view, own_view, sink_view}
use Rattle.client_commands.proofs.StartLemmas.{job_at, turn_all, turn_begins, turn_more, turn_stops}
use Rattle.client_commands.proofs.starting.run_turn.Goals as goal

pub loop-job-init : goal.loop-job-init
loop-job-init g c =
    let view = desk_view g.D.Desk.has_place g.D.Desk.holds g.D.Desk.dials g.D.Desk.folder_faults g.D.Desk.dial_faults in
    let own = own_view g.D.F.Folder.told g.D.F.Folder.faults in
    let links = dial_view (link_view g.D.N.L.Link.left g.D.N.L.Link.taken g.D.N.L.Link.given g.D.N.L.Link.asked g.D.N.L.Link.faults) g.D.N.Dial.back g.D.N.Dial.dialled in
    let shows = g.C.Clock.shows c.args.clock.now in
    let seen = sink_view g.O.Sink.given g.O.Sink.faults in
    record { left = turn_begins links shows c.args.jobs.now (record { own = own c.args.conf.now; desk = view c.args.desk.now; out = seen c.args.out.now }); places = refl }

pub run_job-requires : goal.run_job-requires
run_job-requires g c = record { name = job_at c.args.jobs.now c.loop-job.job-index c.job-item.result c.requires.proper c.loop-job-test.true c.job-item.is }

pub loop-job-preserved : goal.loop-job-preserved
loop-job-preserved g c =
    let view = desk_view g.D.Desk.has_place g.D.Desk.holds g.D.Desk.dials g.D.Desk.folder_faults g.D.Desk.dial_faults in
    let own = own_view g.D.F.Folder.told g.D.F.Folder.faults in
    let links = dial_view (link_view g.D.N.L.Link.left g.D.N.L.Link.taken g.D.N.L.Link.given g.D.N.L.Link.asked g.D.N.L.Link.faults) g.D.N.Dial.back g.D.N.Dial.dialled in
    let shows = g.C.Clock.shows c.args.clock.now in
    let seen = sink_view g.O.Sink.given g.O.Sink.faults in
    record {
      left = turn_more links shows c.args.jobs.now c.loop-job.job-index c.loop-job.status (record { own = own c.args.conf.now; desk = view c.args.desk.now; out = seen c.args.out.now })
          (record { own = own c.loop-job.conf; desk = view c.loop-job.desk; out = seen c.loop-job.out }) c.loop-job.invariant.left c.job-item.result c.in-Ok.ended c.first_of-status.result
          (record { own = own c.run_job.new.conf; desk = view c.run_job.new.desk; out = seen c.run_job.new.out }) c.loop-job-test.true c.job-item.is c.in-Ok.ensures.value c.first_of-status.ensures.value;
      places = c.run_job.ensures.stays ∙ c.loop-job.invariant.places;
    }

pub returns-in-Err : goal.returns-in-Err
returns-in-Err g c =
    let view = desk_view g.D.Desk.has_place g.D.Desk.holds g.D.Desk.dials g.D.Desk.folder_faults g.D.Desk.dial_faults in
    let own = own_view g.D.F.Folder.told g.D.F.Folder.faults in
    let links = dial_view (link_view g.D.N.L.Link.left g.D.N.L.Link.taken g.D.N.L.Link.given g.D.N.L.Link.asked g.D.N.L.Link.faults) g.D.N.Dial.back g.D.N.Dial.dialled in
    let shows = g.C.Clock.shows c.args.clock.now in
    let seen = sink_view g.O.Sink.given g.O.Sink.faults in
    record {
      value = turn_stops links shows c.args.jobs.now c.loop-job.job-index c.loop-job.status (record { own = own c.args.conf.now; desk = view c.args.desk.now; out = seen c.args.out.now })
          (record { own = own c.loop-job.conf; desk = view c.loop-job.desk; out = seen c.loop-job.out }) c.loop-job.invariant.left c.job-item.result c.in-Err.failed
          (record { own = own c.run_job.new.conf; desk = view c.run_job.new.desk; out = seen c.run_job.new.out }) c.loop-job-test.true c.job-item.is c.in-Err.ensures.value;
      stays = c.run_job.ensures.stays ∙ c.loop-job.invariant.places;
    }

pub returns : goal.returns
returns g c =
    let view = desk_view g.D.Desk.has_place g.D.Desk.holds g.D.Desk.dials g.D.Desk.folder_faults g.D.Desk.dial_faults in
    let own = own_view g.D.F.Folder.told g.D.F.Folder.faults in
    let links = dial_view (link_view g.D.N.L.Link.left g.D.N.L.Link.taken g.D.N.L.Link.given g.D.N.L.Link.asked g.D.N.L.Link.faults) g.D.N.Dial.back g.D.N.Dial.dialled in
    let shows = g.C.Clock.shows c.args.clock.now in
    let seen = sink_view g.O.Sink.given g.O.Sink.faults in
    record {
      value = turn_all links shows c.args.jobs.now c.loop-job.job-index c.loop-job.status (record { own = own c.args.conf.now; desk = view c.args.desk.now; out = seen c.args.out.now })
          (record { own = own c.loop-job.conf; desk = view c.loop-job.desk; out = seen c.loop-job.out }) c.loop-job.invariant.left c.loop-job-test.false;
      stays = c.loop-job.invariant.places;
    }
