-- No word so far stands behind itself.
use Rattle.std.proofs.Common.{◌≡◌, drop}
use Rattle.server_words.specs.CommandLine.{is_distinct}
use Rattle.server_words.proofs.command_line.is_distinct.Given as goal

abbrev pub invariant-loop-at : goal.invariant-loop-at
invariant-loop-at l = is_distinct l.words ≡ is_distinct (drop l.at l.words)
