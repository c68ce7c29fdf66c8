-- The names so far are those of the entries so far.
use Rattle.std.proofs.Common.{◌≡◌, take}
use Rattle.object_graph.specs.Reached.{entry_keys}
use Rattle.collector.proofs.naming.entry_keys.Given as goal

abbrev pub invariant-loop-entry : goal.invariant-loop-entry
invariant-loop-entry l = l.names ≡ entry_keys (take l.entry-index l.entries)
