use Rattle.tree_model.proofs.FirstOfLemmas.{first_long_told}
use Rattle.tree_model.proofs.laws.the_first_long_name_is_the_least_of_all.Goals as goal

pub returns : goal.returns
returns c = first_long_told
