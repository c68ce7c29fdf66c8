-- The names so far are those of the blocks so far.
use Rattle.std.proofs.Common.{◌≡◌, take}
use Rattle.object_graph.specs.Reached.{block_keys}
use Rattle.collector.proofs.naming.block_keys.Given as goal

abbrev pub invariant-loop-block : goal.invariant-loop-block
invariant-loop-block l = l.names ≡ block_keys (take l.block-index l.blocks)
