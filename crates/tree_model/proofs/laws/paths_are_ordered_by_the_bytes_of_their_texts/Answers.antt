use Rattle.tree_model.proofs.PathTextLemmas.{path_cmp-text}
use Rattle.tree_model.proofs.laws.paths_are_ordered_by_the_bytes_of_their_texts.Goals as goal

pub returns : goal.returns
returns c = path_cmp-text
