-- The lines were put, or that memory was wanting for them.
use Rattle.std.proofs.Common.{inr, refl, ◌∙◌}
use Rattle.std.specs.List.{flat_map}
use Rattle.client_words.specs.Lines.{line_text}
use Rattle.client_commands.specs.Views.{sink_view}
use Rattle.client_commands.proofs.PrintLemmas.{put_so}
use Rattle.client_commands.proofs.printing.print_lines.Goals as goal

pub returns-in-Ok : goal.returns-in-Ok
returns-in-Ok g c =
    let seen = sink_view g.O.Sink.given g.O.Sink.faults in
    record {
      prints = put_so c.as_slice.result.now (flat_map line_text c.args.lines.now) 0 0 (seen c.args.out.now) (seen c.put.new.out) c.put.result (c.as_slice.ensures.value ∙ c.in-Ok.ensures.value) refl
          c.put.ensures.prints;
    }

pub returns-in-Err : goal.returns-in-Err
returns-in-Err g c = record { prints = inr c.print_no_memory.ensures.prints }
