use Rattle.object_graph.proofs.CommitLemmas.{commit_root}
use Rattle.object_graph.proofs.laws.a_complete_commit_has_a_complete_root.Goals as goal

pub returns : goal.returns
returns c = λ objects id complete. commit_root objects id complete
