use Rattle.tree_model.proofs.FirstLongNameLemmas.{first_long_is}
use Rattle.tree_model.proofs.laws.the_first_name_that_is_too_long_is_the_least.Goals as goal

pub returns : goal.returns
returns c = first_long_is
