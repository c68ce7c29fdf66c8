use Rattle.local_index.proofs.IndexReadBackLemmas.{IsProper-empty}
use Rattle.local_index.proofs.index.Index.empty.Goals as goal

pub returns-clause-proper : goal.returns-clause-proper
returns-clause-proper c = rw c.new.ensures.value (IsProper-empty c.args.lib)
