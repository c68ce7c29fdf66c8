use Rattle.block_chunker.proofs.LawLemmas.{AreChunks-chunks_of, chunks_of-unique}
use Rattle.block_chunker.proofs.laws.the_chunks_follow_the_rule.Goals as goal

pub returns-clause-found : goal.returns-clause-found
returns-clause-found c = AreChunks-chunks_of

pub returns-clause-value : goal.returns-clause-value
returns-clause-value c = λ cuts bytes chunks are. chunks_of-unique cuts are
