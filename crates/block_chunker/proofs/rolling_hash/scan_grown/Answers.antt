use Rattle.std.proofs.Common.{arith}
use Rattle.block_chunker.proofs.ScanLemmas.{IsFirstEnd-grown, or_of_true, or_of_false}
use Rattle.block_chunker.proofs.rolling_hash.scan_grown.Goals as goal

pub returns-then-stop-clause-value : goal.returns-then-stop-clause-value
returns-then-stop-clause-value c =
    IsFirstEnd-grown c.args.cuts c.args.bytes.now c.args.from _ _ _ (omega arith) (omega arith) (omega arith) c.roll-stop.ensures.value (or_of_true _ _ c.if-stop.true)

pub returns-else-stop-clause-value : goal.returns-else-stop-clause-value
returns-else-stop-clause-value c =
    IsFirstEnd-grown c.args.cuts c.args.bytes.now c.args.from _ _ _ (omega arith) (omega arith) (omega arith) c.roll-stop.ensures.value (or_of_false _ _ c.if-stop.false)
