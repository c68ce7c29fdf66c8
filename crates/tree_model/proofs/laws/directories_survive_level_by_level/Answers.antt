use Rattle.tree_model.proofs.LevelLemmas.{stays_levels}
use Rattle.tree_model.proofs.laws.directories_survive_level_by_level.Goals as goal

pub returns : goal.returns
returns c = stays_levels
