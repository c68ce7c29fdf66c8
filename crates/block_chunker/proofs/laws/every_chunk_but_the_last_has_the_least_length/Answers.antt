use Rattle.block_chunker.proofs.LawLemmas.{AreChunks-chunks_of, AreChunks-least}
use Rattle.block_chunker.proofs.laws.every_chunk_but_the_last_has_the_least_length.Goals as goal

pub returns : goal.returns
returns c = record {
  bound = λ cuts bytes before after chunk follower e. AreChunks-least cuts before chunk follower after (AreChunks-chunks_of cuts bytes) e;
}
