-- What stands beside keys more is named by the older entries.
use Rattle.collector.specs.Compared.{PlacesBeside}
use Rattle.collector.proofs.comparing.place_beside.Given as goal

abbrev pub invariant-loop-entry : goal.invariant-loop-entry
invariant-loop-entry l = PlacesBeside l.older l.initial.compared l.compared
