use Rattle.std.proofs.Common.{◌≡◌, ℕ, ◌+◌, ◌%◌, ◌/◌, ◌^◌, ◌<◌, ◌≤◌, ◌==◌, false, take}
use Rattle.block_chunker.specs.ChunkBoundaries.{window, window_hash}
use Rattle.block_chunker.specs.RollingHash.{ones}
use Rattle.block_chunker.proofs.rolling_hash.roll.Given as goal

abbrev pub invariant-loop-i : goal.invariant-loop-i
invariant-loop-i l = record {
  is_hash : (l.plain + ones) % 2 ^ 64 ≡ window_hash (window (take l.i l.bytes));
  quiet : (k : ℕ) → l.fn.from < k → k ≤ l.i → (window_hash (window (take k l.bytes)) / 2 ^ l.shift == 0) ≡ false;
}
