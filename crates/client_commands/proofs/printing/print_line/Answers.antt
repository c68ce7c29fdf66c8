-- The line was put, or that memory was wanting for it.
use Rattle.std.proofs.Common.{inr, ◌∙◌}
use Rattle.client_words.specs.Lines.{line_text, status_of}
use Rattle.client_commands.specs.Views.{sink_view}
use Rattle.client_commands.proofs.PrintLemmas.{put_so}
use Rattle.client_commands.proofs.printing.print_line.Goals as goal

pub returns-in-Ok : goal.returns-in-Ok
returns-in-Ok g c =
    let seen = sink_view g.O.Sink.given g.O.Sink.faults in
    record {
      prints = put_so c.as_slice.result.now (line_text c.args.line.now) c.status.result (status_of c.args.line.now) (seen c.args.out.now) (seen c.put.new.out) c.put.result
          (c.as_slice.ensures.value ∙ c.in-Ok.ensures.value) c.status.ensures.value c.put.ensures.prints;
    }

pub returns-in-Err : goal.returns-in-Err
returns-in-Err g c = record { prints = inr c.print_no_memory.ensures.prints }
