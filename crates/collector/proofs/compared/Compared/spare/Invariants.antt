-- The keys so far.
use Rattle.std.proofs.Common.{take}
use Rattle.collector.specs.Compared.{Spares}
use Rattle.collector.proofs.compared.Compared.spare.Given as goal

abbrev pub invariant-loop-key : goal.invariant-loop-key
invariant-loop-key l = Spares (take l.key-index l.keys) l.initial.self l.self
