use Rattle.std.proofs.Common.{◌≡◌, ◌<◌, length}
use Rattle.block_chunker.specs.ChunkBoundaries.{finished_chunks, begun_after}
use Rattle.block_chunker.specs.RollingHash.{chunk_hash}
use Rattle.block_chunker.proofs.ChunkerLemmas.{HandsOut}
use Rattle.block_chunker.proofs.chunker.take_all.Given as goal

abbrev pub invariant-loop-left : goal.invariant-loop-left
invariant-loop-left l = record {
  short : length l.bytes.items < l.cuts.max;
  ready : l.hash ≡ chunk_hash l.cuts.min l.bytes.items;
  handed : HandsOut l.fn.chunks l.chunks (finished_chunks l.cuts l.bytes.items l.left) (finished_chunks l.cuts l.fn.bytes.items l.fn.piece);
  goes_on : begun_after l.cuts l.bytes.items l.left ≡ begun_after l.cuts l.fn.bytes.items l.fn.piece;
}

abbrev pub decreases-loop-left : goal.decreases-loop-left
decreases-loop-left l = length l.left
