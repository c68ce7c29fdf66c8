-- At the end no block is left.
use Rattle.std.proofs.Common.{subst, ◌∙◌, ◌+◌, drop, arith}
use Rattle.tree_walk.proofs.FileLemmas.{Joins, joins_end, joins_stop}
use Rattle.tree_walk.proofs.ReadsLemmas.{nothing_left, told_after}
use Rattle.tree_walk.proofs.StepsLemmas.{next_entry}
use Rattle.tree_walk.proofs.contents.join.Goals as goal

pub returns-clause-value : goal.returns-clause-value
returns-clause-value g c = λ objects told.
    let all = joins_end objects c.args.blocks.now c.loop-block.bytes.items
    (subst (λ rest. Joins objects c.args.blocks.now rest c.loop-block.bytes.items) (nothing_left c.args.blocks.now c.loop-block.block-index (omega arith)) (c.loop-block.invariant.joins objects told)) in
    (all.0, c.from_vec.ensures.value ∙ all.1)

pub returns-in-Err-clause-value : goal.returns-in-Err-clause-value
returns-in-Err-clause-value g c = λ objects told.
    joins_stop objects c.args.blocks.now (drop (c.loop-block.block-index + 1) c.args.blocks.now) c.block-item.result c.block_key.result c.loop-block.bytes.items c.in-Err.fault
    (subst (λ rest. Joins objects c.args.blocks.now rest c.loop-block.bytes.items)
    (next_entry c.args.blocks.now c.loop-block.block-index c.block-item.result (omega arith) c.block-item.is)
    (c.loop-block.invariant.joins objects told))
    c.block_key.ensures.value
    (c.in-Err.ensures.value objects (told_after c.loop-block.invariant.reads told))
