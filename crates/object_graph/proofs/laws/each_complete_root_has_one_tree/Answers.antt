use Rattle.object_graph.proofs.FittingLemmas.{root_fits, one_tree}
use Rattle.object_graph.proofs.laws.each_complete_root_has_one_tree.Goals as goal

pub returns-clause-found : goal.returns-clause-found
returns-clause-found c = λ objects root complete. root_fits objects root complete

pub returns-clause-one : goal.returns-clause-one
returns-clause-one c = λ objects root tree other first second. one_tree objects root tree other first second
