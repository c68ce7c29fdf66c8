-- The bytes passed over so far are empty lines.
use Rattle.std.proofs.Common.{◌-◌, length}
use Rattle.worker_server.specs.RequestSteps.{BeginsBlank}
use Rattle.worker_server.proofs.reading.blank_lines.Given as goal

abbrev pub invariant-loop-from : goal.invariant-loop-from
invariant-loop-from l = record { blank : BeginsBlank l.at l.front }

abbrev pub decreases-loop-from : goal.decreases-loop-from
decreases-loop-from l = length l.front - l.at
