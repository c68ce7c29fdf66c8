use Rattle.tree_model.proofs.PathTextLemmas.{path_text-apart}
use Rattle.tree_model.proofs.laws.two_paths_have_two_texts.Goals as goal

pub returns : goal.returns
returns c = path_text-apart
