-- What is left of the turns is left of all.
use Rattle.std.proofs.Common.{◌≡◌}
use Rattle.remote_calls.specs.Exchange.{link_view}
use Rattle.client_commands.specs.Views.{desk_view, dial_view, own_view, sink_view}
use Rattle.client_commands.proofs.StartLemmas.{TurnsLeft}
use Rattle.client_commands.proofs.starting.run_turns.Given as goal

abbrev pub invariant-loop-left : goal.invariant-loop-left
invariant-loop-left g l =
    let view = desk_view g.D.Desk.has_place g.D.Desk.holds g.D.Desk.dials g.D.Desk.folder_faults g.D.Desk.dial_faults in
    let own = own_view g.D.F.Folder.told g.D.F.Folder.faults in
    let links = dial_view (link_view g.D.N.L.Link.left g.D.N.L.Link.taken g.D.N.L.Link.given g.D.N.L.Link.asked g.D.N.L.Link.faults) g.D.N.Dial.back g.D.N.Dial.dialled in
    let shows = g.C.Clock.shows l.clock in
    let seen = sink_view g.O.Sink.given g.O.Sink.faults in
    record {
      goes : TurnsLeft links shows l.jobs l.fn.turns l.left l.status (record { own = own l.initial.conf; desk = view l.initial.desk; out = seen l.initial.out })
          (record { own = own l.conf; desk = view l.desk; out = seen l.out });
      places : g.D.Desk.has_place l.desk ≡ g.D.Desk.has_place l.initial.desk;
    }

abbrev pub decreases-loop-left : goal.decreases-loop-left
decreases-loop-left g l = l.left
