use Rattle.std.proofs.Common.{ap, Err}
use Rattle.tree_merge.specs.declared.tree_builder.BuildFault.TheVariants.{Taken}
use Rattle.tree_merge.proofs.MadeLemmas.{fault_told}
use Rattle.tree_merge.proofs.tree_builder.make_named.Goals as goal

pub returns-in-Err-clause-taken : goal.returns-in-Err-clause-taken
returns-in-Err-clause-taken c id e = c.in-Err.ensures.taken id (ap Err (fault_told c.in-Err.fault (Taken id) e))
