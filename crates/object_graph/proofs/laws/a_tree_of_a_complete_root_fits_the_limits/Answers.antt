use Rattle.std.proofs.Common.{subst}
use Rattle.object_graph.proofs.FittingLemmas.{root_fits, one_tree}
use Rattle.tree_model.specs.Tree.{Fits}
use Rattle.object_graph.proofs.laws.a_tree_of_a_complete_root_fits_the_limits.Goals as goal

pub returns : goal.returns
returns c = λ objects root tree complete is.
    let own = root_fits objects root complete in
    subst Fits (one_tree objects root own.0 tree own.1 is) own.2
