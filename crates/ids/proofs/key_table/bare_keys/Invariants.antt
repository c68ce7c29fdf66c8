-- The keys so far, and those that are left, are all.
use Rattle.std.proofs.Common.{◌≡◌, ◌++◌}
use Rattle.std.specs.BTreeMap as tree
use Rattle.std.specs.Map.{keys_of}
use Rattle.ids.proofs.key_table.bare_keys.Given as goal

abbrev pub invariant-loop-key : goal.invariant-loop-key
invariant-loop-key g l = keys_of l.pairs.items ++ l.key-iterator ≡ tree.keys l.held
