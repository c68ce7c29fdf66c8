use Rattle.tree_checkout.proofs.AskLemmas.{written_sized}
use Rattle.tree_checkout.proofs.laws.what_is_written_has_the_size_of_its_object.Goals as goal

pub returns : goal.returns
returns c = written_sized
