-- What is told of the pair is what was found.
use Rattle.std.proofs.Common.{sym}
use Rattle.tree_merge.proofs.compared.Compared.told.Goals as goal

pub returns-in-Some : goal.returns-in-Some
returns-in-Some c = record { value = λ objects compared. compared.right c.args.pair.now c.in-Some.same.now (sym c.in-Some.ensures.value) }
