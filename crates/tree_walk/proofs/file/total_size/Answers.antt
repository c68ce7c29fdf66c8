-- At the end no block is left.
use Rattle.std.proofs.Common.{subst, arith}
use Rattle.tree_walk.proofs.FileLemmas.{Sizes, sizes_end}
use Rattle.tree_walk.proofs.ReadsLemmas.{nothing_left}
use Rattle.tree_walk.proofs.file.total_size.Goals as goal

pub returns-clause-value : goal.returns-clause-value
returns-clause-value g c = λ objects told.
    sizes_end objects c.args.blocks.now c.loop-block.total
    (subst (λ rest. Sizes objects c.args.blocks.now rest c.loop-block.total) (nothing_left c.args.blocks.now c.loop-block.block-index (omega arith)) (c.loop-block.invariant objects told))
