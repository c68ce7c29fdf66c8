-- One line more.
use Rattle.client_commands.proofs.PrintLemmas.{lines_more}
use Rattle.client_commands.proofs.printing.lines_text.Goals as goal

pub loop-line-preserved : goal.loop-line-preserved
loop-line-preserved c =
    lines_more c.args.lines.now c.loop-line.line-index c.line-item.result c.loop-line.all.items c.as_slice.result.now c.in_ok-text.text.items c.extend_from_slice.new.self.items c.loop-line-test.true
    c.line-item.is c.loop-line.invariant c.in_ok-text.ensures.value c.as_slice.ensures.value c.in_ok-extend_from_slice.ensures.items
