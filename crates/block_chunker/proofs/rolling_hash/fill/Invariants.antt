use Rattle.std.proofs.Common.{◌≡◌, take, drop}
use Rattle.block_chunker.specs.ChunkBoundaries.{window_hash}
use Rattle.block_chunker.proofs.rolling_hash.fill.Given as goal

abbrev pub invariant-loop-i : goal.invariant-loop-i
invariant-loop-i l = l.hash ≡ window_hash (drop l.first (take l.i l.bytes))
