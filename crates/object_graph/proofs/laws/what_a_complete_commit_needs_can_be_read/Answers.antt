use Rattle.std.proofs.Common.{sym, ◌∙◌}
use Rattle.object_graph.proofs.KeyLemmas.{in_distinct}
use Rattle.object_graph.proofs.ReadableLemmas.{commit_readable}
use Rattle.object_graph.specs.Objects.{commit_key, fs_key}
use Rattle.object_graph.specs.Traversal.{walk_commit}
use Rattle.object_graph.proofs.laws.what_a_complete_commit_needs_can_be_read.Goals as goal

pub returns-clause-files : goal.returns-clause-files
returns-clause-files c = λ objects id complete key needed.
    (commit_readable objects id complete).each (fs_key key) (sym (in_distinct (walk_commit objects id).visits (fs_key key)) ∙ needed)

pub returns-clause-commit : goal.returns-clause-commit
returns-clause-commit c = λ objects id complete other needed.
    (commit_readable objects id complete).each (commit_key other) (sym (in_distinct (walk_commit objects id).visits (commit_key other)) ∙ needed)
