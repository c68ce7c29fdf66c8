use Rattle.tree_model.proofs.CopyLemmas.{get-merged_known}
use Rattle.tree_model.proofs.laws.a_path_of_the_trees_has_its_directory_or_its_main_file.Goals as goal

pub returns : goal.returns
returns c naming s is_naming = get-merged_known naming is_naming s
