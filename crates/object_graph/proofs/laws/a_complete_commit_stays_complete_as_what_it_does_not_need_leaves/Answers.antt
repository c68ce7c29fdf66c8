use Rattle.std.proofs.Common.{ap, ◌∙◌}
use Rattle.object_graph.proofs.CommitLemmas.{commit_needed}
use Rattle.object_graph.specs.Traversal.{Walk}
use Rattle.object_graph.proofs.laws.a_complete_commit_stays_complete_as_what_it_does_not_need_leaves.Goals as goal

pub returns-clause-ok : goal.returns-clause-ok
returns-clause-ok c = λ old new id complete agree. ap (λ (w : Walk). w.fault) (commit_needed old new id agree) ∙ complete

pub returns-clause-stays : goal.returns-clause-stays
returns-clause-stays c = λ old new id agree. commit_needed old new id agree
