-- One block more is named; at the end all are.
use Rattle.std.proofs.Common.{ap, arith, ◌∙◌}
use Rattle.std.proofs.lemmas.List.{take_all}
use Rattle.object_graph.specs.Reached.{block_keys}
use Rattle.collector.proofs.NamingLemmas.{blocks_next}
use Rattle.collector.proofs.naming.block_keys.Goals as goal

pub loop-block-preserved : goal.loop-block-preserved
loop-block-preserved c =
    c.in_ok-push.ensures.ok
    ∙ blocks_next c.loop-block.names c.args.blocks.now c.loop-block.block-index c.block-item.result c.loop-block-test.true c.block-item.is c.loop-block.invariant

pub returns : goal.returns
returns c = record { value = c.loop-block.invariant ∙ ap block_keys (take_all c.loop-block.block-index c.args.blocks.now (omega arith)) }
