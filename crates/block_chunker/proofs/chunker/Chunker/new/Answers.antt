use Rattle.std.proofs.Common.{length, ap, arith}
use Rattle.block_chunker.proofs.RollingHashLemmas.{chunk_hash-none}
use Rattle.block_chunker.proofs.chunker.Chunker.new.Goals as goal

pub invariant_of-result : goal.invariant_of-result
invariant_of-result c =
    (omega (arith, ap length c.new.ensures.items), chunk_hash-none c.args.cuts.min c.new.result.items c.new.ensures.items)
