use Rattle.block_chunker.proofs.LawLemmas.{AreChunks-chunks_of, concat-AreChunks}
use Rattle.block_chunker.proofs.laws.the_chunks_join_to_the_bytes.Goals as goal

pub returns : goal.returns
returns c = record { value = λ cuts bytes. concat-AreChunks cuts (AreChunks-chunks_of cuts bytes) }
