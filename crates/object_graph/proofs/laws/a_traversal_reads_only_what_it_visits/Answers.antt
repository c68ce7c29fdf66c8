use Rattle.object_graph.proofs.LocalityLemmas.{local_root, local_commit}
use Rattle.object_graph.specs.Traversal.{start}
use Rattle.object_graph.proofs.laws.a_traversal_reads_only_what_it_visits.Goals as goal

pub returns-clause-commit : goal.returns-clause-commit
returns-clause-commit c = λ old new id agree. local_commit old new id agree

pub returns-clause-root : goal.returns-clause-root
returns-clause-root c = λ blocks old new id agree. local_root old new blocks id start agree
