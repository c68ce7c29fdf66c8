use Rattle.tree_walk.proofs.CheckingLemmas.{root_measured}
use Rattle.tree_walk.proofs.checking.extent_at.Goals as goal

pub returns-clause-value : goal.returns-clause-value
returns-clause-value g c objects told = root_measured objects c.args.root c.check_directory.result (c.check_directory.ensures.value objects told)
