use Rattle.block_chunker.proofs.LawLemmas.{AreChunks-chunks_of, AreChunks-bound}
use Rattle.block_chunker.proofs.laws.every_chunk_has_a_byte_and_at_most_the_greatest_length.Goals as goal

pub returns : goal.returns
returns c = record { bound = λ cuts bytes. AreChunks-bound cuts (AreChunks-chunks_of cuts bytes) }
