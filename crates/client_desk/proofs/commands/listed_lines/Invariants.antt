-- The lines so far are those of the jobs so far.
use Rattle.std.proofs.Common.{◌≡◌, map, take}
use Rattle.client_desk.specs.Commands.{listed_line}
use Rattle.client_desk.proofs.commands.listed_lines.Given as goal

abbrev pub invariant-loop-job : goal.invariant-loop-job
invariant-loop-job l = record {
  value : l.lines ≡ map listed_line (take l.job-index l.jobs);
}
