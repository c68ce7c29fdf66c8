use Rattle.tree_merge.proofs.ComparedLemmas.{nothing_compared}
use Rattle.tree_merge.proofs.compared.Compared.new.Goals as goal

pub returns : goal.returns
returns c = record { value = λ objects. nothing_compared objects (record { pairs = c.new.result }) c.new.ensures.empty }
