use Rattle.std.proofs.Common.{true, refl}
use Rattle.block_chunker.proofs.ChunkerLemmas.{OnErr-with}
use Rattle.block_chunker.proofs.chunker.Chunker.feed.Goals as goal

pub returns-then-is_err-clause-err : goal.returns-then-is_err-clause-err
returns-then-is_err-clause-err c = rw (← c.self.view_is) (OnErr-with _ true _ refl c.take_all-taken.ensures.err)
