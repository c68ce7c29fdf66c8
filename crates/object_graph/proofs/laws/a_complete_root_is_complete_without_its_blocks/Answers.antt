use Rattle.std.proofs.Common.{false, arith}
use Rattle.object_graph.proofs.LimitLemmas.{root_spared, root_same_paths}
use Rattle.object_graph.specs.Traversal.{start}
use Rattle.object_graph.proofs.laws.a_complete_root_is_complete_without_its_blocks.Goals as goal

pub returns-clause-ok : goal.returns-clause-ok
returns-clause-ok c = λ objects root complete. root_spared objects false root start complete

pub returns-clause-bound : goal.returns-clause-bound
returns-clause-bound c = λ objects root complete. omega (arith, root_same_paths objects root complete)
