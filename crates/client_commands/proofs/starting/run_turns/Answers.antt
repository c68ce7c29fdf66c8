-- One turn more.
use Rattle.std.proofs.Common.{◌∙◌, refl, arith}
use Rattle.remote_calls.specs.Exchange.{link_view}
use Rattle.client_commands.specs.Views.{desk_view, dial_view, own_view, sink_view}
use Rattle.client_commands.proofs.StartLemmas.{turns_all, turns_begin, turns_more, turns_stop}
use Rattle.client_commands.proofs.starting.run_turns.Goals as goal

pub loop-left-init : goal.loop-left-init
loop-left-init g c =
    let view = desk_view g.D.Desk.has_place g.D.Desk.holds g.D.Desk.dials g.D.Desk.folder_faults g.D.Desk.dial_faults in
    let own = own_view g.D.F.Folder.told g.D.F.Folder.faults in
    let links = dial_view (link_view g.D.N.L.Link.left g.D.N.L.Link.taken g.D.N.L.Link.given g.D.N.L.Link.asked g.D.N.L.Link.faults) g.D.N.Dial.back g.D.N.Dial.dialled in
    let shows = g.C.Clock.shows c.args.clock.now in
    let seen = sink_view g.O.Sink.given g.O.Sink.faults in
    record { goes = turns_begin links shows c.args.jobs.now c.args.turns (record { own = own c.args.conf.now; desk = view c.args.desk.now; out = seen c.args.out.now }); places = refl }

pub loop-left-preserved : goal.loop-left-preserved
loop-left-preserved g c =
    let view = desk_view g.D.Desk.has_place g.D.Desk.holds g.D.Desk.dials g.D.Desk.folder_faults g.D.Desk.dial_faults in
    let own = own_view g.D.F.Folder.told g.D.F.Folder.faults in
    let links = dial_view (link_view g.D.N.L.Link.left g.D.N.L.Link.taken g.D.N.L.Link.given g.D.N.L.Link.asked g.D.N.L.Link.faults) g.D.N.Dial.back g.D.N.Dial.dialled in
    let shows = g.C.Clock.shows c.args.clock.now in
    let seen = sink_view g.O.Sink.given g.O.Sink.faults in
    record {
      goes = turns_more links shows c.args.jobs.now c.args.turns c.loop-left.left c.loop-left.status (record { own = own c.args.conf.now; desk = view c.args.desk.now; out = seen c.args.out.now })
          (record { own = own c.loop-left.conf; desk = view c.loop-left.desk; out = seen c.loop-left.out }) c.loop-left.invariant.goes c.loop-left-test.true c.in-Ok.ended
          (record { own = own c.run_turn.new.conf; desk = view c.run_turn.new.desk; out = seen c.run_turn.new.out }) c.in-Ok.ensures.value;
      places = c.run_turn.ensures.stays ∙ c.loop-left.invariant.places;
    }

pub returns-in-Err : goal.returns-in-Err
returns-in-Err g c =
    let view = desk_view g.D.Desk.has_place g.D.Desk.holds g.D.Desk.dials g.D.Desk.folder_faults g.D.Desk.dial_faults in
    let own = own_view g.D.F.Folder.told g.D.F.Folder.faults in
    let links = dial_view (link_view g.D.N.L.Link.left g.D.N.L.Link.taken g.D.N.L.Link.given g.D.N.L.Link.asked g.D.N.L.Link.faults) g.D.N.Dial.back g.D.N.Dial.dialled in
    let shows = g.C.Clock.shows c.args.clock.now in
    let seen = sink_view g.O.Sink.given g.O.Sink.faults in
    record {
      value = turns_stop links shows c.args.jobs.now c.args.turns c.loop-left.left c.loop-left.status (record { own = own c.args.conf.now; desk = view c.args.desk.now; out = seen c.args.out.now })
          (record { own = own c.loop-left.conf; desk = view c.loop-left.desk; out = seen c.loop-left.out }) c.loop-left.invariant.goes c.loop-left-test.true _
          (record { own = own c.run_turn.new.conf; desk = view c.run_turn.new.desk; out = seen c.run_turn.new.out }) c.in-Err.ensures.value;
      stays = c.run_turn.ensures.stays ∙ c.loop-left.invariant.places;
    }

pub returns : goal.returns
returns g c =
    let view = desk_view g.D.Desk.has_place g.D.Desk.holds g.D.Desk.dials g.D.Desk.folder_faults g.D.Desk.dial_faults in
    let own = own_view g.D.F.Folder.told g.D.F.Folder.faults in
    let links = dial_view (link_view g.D.N.L.Link.left g.D.N.L.Link.taken g.D.N.L.Link.given g.D.N.L.Link.asked g.D.N.L.Link.faults) g.D.N.Dial.back g.D.N.Dial.dialled in
    let shows = g.C.Clock.shows c.args.clock.now in
    let seen = sink_view g.O.Sink.given g.O.Sink.faults in
    let past = c.loop-left-test.false in
    record {
      value = turns_all links shows c.args.jobs.now c.args.turns c.loop-left.left c.loop-left.status (record { own = own c.args.conf.now; desk = view c.args.desk.now; out = seen c.args.out.now })
          (record { own = own c.loop-left.conf; desk = view c.loop-left.desk; out = seen c.loop-left.out }) c.loop-left.invariant.goes (omega (arith, past));
      stays = c.loop-left.invariant.places;
    }
