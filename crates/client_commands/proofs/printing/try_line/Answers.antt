-- The line was put, or that memory was wanting for it; the sink's fault is handed on.
use Rattle.std.proofs.Common.{inr, ◌∙◌}
use Rattle.client_words.specs.Lines.{line_text, status_of}
use Rattle.client_commands.specs.Views.{sink_view}
use Rattle.client_commands.proofs.PrintLemmas.{tried_so}
use Rattle.client_commands.proofs.printing.try_line.Goals as goal

pub returns-in-Ok : goal.returns-in-Ok
returns-in-Ok g c =
    let seen = sink_view g.O.Sink.given g.O.Sink.faults in
    record {
      prints = tried_so c.as_slice.result.now (line_text c.args.line.now) c.status.result (status_of c.args.line.now) (seen c.args.out.now) (seen c.try_text.new.out) c.try_text.result
          (c.as_slice.ensures.value ∙ c.in-Ok.ensures.value) c.status.ensures.value c.try_text.ensures.prints;
    }

pub returns-in-Err : goal.returns-in-Err
returns-in-Err g c = record { prints = inr c.try_text-in-Err.ensures.prints }
