use Rattle.std.proofs.Common.{sym, ◌∙◌}
use Rattle.object_graph.proofs.CommitLemmas.{tree_of_commit_stays}
use Rattle.object_graph.proofs.SameBelowLemmas.{same_tree}
use Rattle.object_graph.proofs.laws.the_tree_of_a_root_stays_while_its_objects_do.Goals as goal

pub returns-clause-root : goal.returns-clause-root
returns-clause-root c = λ old new root tree complete agree is path. is path ∙ sym (same_tree old new root complete agree path)

pub returns-clause-commit : goal.returns-clause-commit
returns-clause-commit c = λ old new id commit tree complete read agree is path. tree_of_commit_stays old new id commit tree complete read agree is path
