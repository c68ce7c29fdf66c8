-- The texts of the lines so far.
use Rattle.std.proofs.Common.{◌≡◌, take}
use Rattle.std.specs.List.{flat_map}
use Rattle.client_words.specs.Lines.{line_text}
use Rattle.client_commands.proofs.printing.lines_text.Given as goal

abbrev pub invariant-loop-line : goal.invariant-loop-line
invariant-loop-line l = l.all.items ≡ flat_map line_text (take l.line-index l.lines)
