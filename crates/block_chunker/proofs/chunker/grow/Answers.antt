use Rattle.std.proofs.Common.{arith, rules}
use Rattle.block_chunker.proofs.ChunkerLemmas.{GrowsBy-from_end}
use Rattle.block_chunker.proofs.chunker.grow.Goals as goal

pub returns-clause-ok : goal.returns-clause-ok
returns-clause-ok c =
    GrowsBy-from_end c.args.cuts c.args.bytes.now.items c.args.piece.now c.as_slice.result.now c.truncate.new.self.items c.len-from.result c.min-taken.result _ _ (omega arith) (omega arith) (omega arith) (search rules) (search rules) c.scan-stop.ensures.value
