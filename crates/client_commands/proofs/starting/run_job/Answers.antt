-- A job is synced, and its line put.
use Rattle.remote_calls.specs.Exchange.{link_view}
use Rattle.client_commands.specs.Views.{desk_view, dial_view, own_view, sink_view}
use Rattle.client_commands.proofs.StartLemmas.{runs_by}
use Rattle.client_commands.proofs.starting.run_job.Goals as goal

pub returns : goal.returns
returns g c =
    let view = desk_view g.D.Desk.has_place g.D.Desk.holds g.D.Desk.dials g.D.Desk.folder_faults g.D.Desk.dial_faults in
    let own = own_view g.D.F.Folder.told g.D.F.Folder.faults in
    let links = dial_view (link_view g.D.N.L.Link.left g.D.N.L.Link.taken g.D.N.L.Link.given g.D.N.L.Link.asked g.D.N.L.Link.faults) g.D.N.Dial.back g.D.N.Dial.dialled in
    let shows = g.C.Clock.shows c.args.clock.now in
    let seen = sink_view g.O.Sink.given g.O.Sink.faults in
    record {
      value = runs_by links shows c.args.job.now (own c.args.conf.now) (own c.sync_listed-synced.new.conf) (view c.args.desk.now) (view c.sync_listed-synced.new.desk) (seen c.args.out.now) (seen c.try_line.new.out)
          c.sync_listed-synced.result c.sync_listed-synced.ensures.value c.sync_listed-synced.ensures.faults c.job_line.result c.job_line.ensures.value c.try_line.result c.try_line.ensures.prints;
      stays = c.sync_listed-synced.ensures.faults.fell.places;
    }
