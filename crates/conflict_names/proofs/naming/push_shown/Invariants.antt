use Rattle.std.proofs.Common.{◌≡◌, ◌++◌, map, take}
use Rattle.conflict_names.specs.Naming.{shown}
use Rattle.conflict_names.proofs.naming.push_shown.Given as goal

abbrev pub invariant-loop-byte : goal.invariant-loop-byte
invariant-loop-byte l = l.made.items ≡ l.initial.made.items ++ map shown (take l.byte-index l.modifier)
