-- The words are read, and what they ask for is done.
use Rattle.std.proofs.Common.{refl}
use Rattle.remote_calls.specs.Exchange.{link_view}
use Rattle.client_commands.specs.Runs.{unread}
use Rattle.client_commands.specs.Views.{desk_view, dial_view, sink_view}
use Rattle.client_commands.proofs.RunLemmas.{refused_alone, refused_never}
use Rattle.client_commands.proofs.WordLemmas.{words_ready}
use Rattle.client_commands.proofs.running.cli.Goals as goal

pub perform-requires : goal.perform-requires
perform-requires g c = record { ready = words_ready c.in-Ok.asked c.in-Ok.ensures.proper }

pub returns-in-Ok : goal.returns-in-Ok
returns-in-Ok g c =
    let view = desk_view g.D.Desk.has_place g.D.Desk.holds g.D.Desk.dials g.D.Desk.folder_faults g.D.Desk.dial_faults in
    let links = dial_view (link_view g.D.N.L.Link.left g.D.N.L.Link.taken g.D.N.L.Link.given g.D.N.L.Link.asked g.D.N.L.Link.faults) g.D.N.Dial.back g.D.N.Dial.dialled in
    let shows = g.C.Clock.shows c.args.clock.now in
    let seen = sink_view g.O.Sink.given g.O.Sink.faults in
    let runs = rw c.in-Ok.ensures.value at c.perform.ensures.runs in
    record {
      runs = runs;
      refused = refused_alone links shows _ (view c.args.desk.now) (view c.perform.new.desk) (seen c.args.out.now) (seen c.perform.new.out) c.perform.result runs;
    }

pub returns-in-Err : goal.returns-in-Err
returns-in-Err g c =
    let seen = sink_view g.O.Sink.given g.O.Sink.faults in
    record {
      runs = unread refl c.print_no_memory.ensures.prints;
      refused = λ two. absurd (refused_never (seen c.args.out.now) (seen c.print_no_memory.new.out) c.print_no_memory.result c.print_no_memory.ensures.prints two);
    }
