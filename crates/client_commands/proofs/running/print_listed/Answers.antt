-- The fault's line was put.
use Rattle.std.proofs.Common.{List, Result, subst, sym}
use Rattle.client_words.specs.declared.fault.Fault.{Fault}
use Rattle.client_words.specs.declared.line.Line.{Line}
use Rattle.client_commands.specs.Printing.{Prints}
use Rattle.client_commands.specs.Runs.{listed_printed}
use Rattle.client_commands.specs.Views.{sink_view}
use Rattle.client_commands.proofs.running.print_listed.Goals as goal

pub returns-in-Err : goal.returns-in-Err
returns-in-Err g c =
    let seen = sink_view g.O.Sink.given g.O.Sink.faults in
    record {
      prints = subst (λ (l : Result (List Line) Fault). Prints (listed_printed l) (seen c.args.out.now) (seen c.print_line.new.out) c.print_line.result) (sym c.in-Err.is) c.print_line.ensures.prints;
    }
