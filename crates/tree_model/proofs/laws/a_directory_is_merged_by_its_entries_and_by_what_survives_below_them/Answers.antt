use Rattle.tree_model.proofs.OneLevelLemmas.{merges_here}
use Rattle.tree_model.proofs.laws.a_directory_is_merged_by_its_entries_and_by_what_survives_below_them.Goals as goal

pub returns : goal.returns
returns c naming s level survives is_naming base head pushed is = merges_here naming is_naming s level survives is base head pushed
