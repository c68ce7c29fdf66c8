use Rattle.std.proofs.Common.{ap, ◌∙◌}
use Rattle.object_graph.proofs.CommitLemmas.{commit_grown}
use Rattle.object_graph.specs.Traversal.{Walk}
use Rattle.object_graph.proofs.laws.a_complete_commit_stays_complete_as_objects_are_added.Goals as goal

pub returns-clause-ok : goal.returns-clause-ok
returns-clause-ok c = λ old new id complete keeps. ap (λ (w : Walk). w.fault) (commit_grown old new id complete keeps) ∙ complete

pub returns-clause-stays : goal.returns-clause-stays
returns-clause-stays c = λ old new id complete keeps. commit_grown old new id complete keeps
