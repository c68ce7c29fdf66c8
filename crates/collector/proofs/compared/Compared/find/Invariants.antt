-- The keys so far.
use Rattle.std.proofs.Common.{take}
use Rattle.collector.specs.Compared.{Finds}
use Rattle.collector.proofs.compared.Compared.find.Given as goal

abbrev pub invariant-loop-key : goal.invariant-loop-key
invariant-loop-key l = Finds (take l.key-index l.keys) l.initial.self l.self
