use Rattle.conflict_names.proofs.GoodNameLemmas.{naming-naming}
use Rattle.conflict_names.proofs.laws.the_names_are_a_naming.Goals as goal

pub returns : goal.returns
returns c = naming-naming
