use Rattle.block_chunker.specs.ChunkBoundaries.{chunks_of}
use Rattle.block_chunker.specs.ChunkerProgress.{start_of}
use Rattle.block_chunker.proofs.LawLemmas.{chunks_of_run-is}
use Rattle.block_chunker.proofs.laws.the_chunks_do_not_depend_on_the_pieces.Goals as goal

pub returns : goal.returns
unfolding chunks_of
returns c = record { value = λ cuts pieces. chunks_of_run-is (start_of cuts) pieces }
