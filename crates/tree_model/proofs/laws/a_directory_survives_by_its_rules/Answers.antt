use Rattle.tree_model.proofs.SurvivalLemmas.{stays_means}
use Rattle.tree_model.proofs.laws.a_directory_survives_by_its_rules.Goals as goal

pub returns : goal.returns
returns c = stays_means
