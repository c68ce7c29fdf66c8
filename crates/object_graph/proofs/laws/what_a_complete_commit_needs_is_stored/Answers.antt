use Rattle.std.proofs.Common.{sym, ◌∙◌}
use Rattle.object_graph.proofs.KeyLemmas.{in_distinct}
use Rattle.object_graph.proofs.StoredLemmas.{commit_stored}
use Rattle.object_graph.specs.Traversal.{walk_commit}
use Rattle.object_graph.proofs.laws.what_a_complete_commit_needs_is_stored.Goals as goal

pub returns : goal.returns
returns c = λ objects id complete key needed.
    (commit_stored objects id complete).stored key (sym (in_distinct (walk_commit objects id).visits key) ∙ needed)
