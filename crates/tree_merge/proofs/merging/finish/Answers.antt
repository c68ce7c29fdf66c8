-- The first long name comes before the other refusals.
use Rattle.std.proofs.Common.{Option, subst, sym, ap}
use Rattle.tree_merge.specs.DirectoryMerge.{FinishesSo}
use Rattle.tree_merge.specs.WorkSoFar.{long_told}
use Rattle.tree_merge.specs.declared.work.Long.{Long}
use Rattle.tree_merge.proofs.MergingLemmas.{cause_told}
use Rattle.tree_merge.proofs.merging.finish.Goals as goal

pub returns-in-Some-clause-value : goal.returns-in-Some-clause-value
returns-in-Some-clause-value c = ap long_told c.in-Some.is

pub returns-in-None-clause-value : goal.returns-in-None-clause-value
returns-in-None-clause-value c =
    subst (λ (o : Option Long). FinishesSo c.args.part (record { made = c.args.work.made; copies = c.args.work.copies; long = o; stop = c.args.work.stop }) c.finish_named.result) (sym c.in-None.is)
    c.finish_named.ensures.value

pub returns-in-None-clause-cause : goal.returns-in-None-clause-cause
returns-in-None-clause-cause c caused = c.finish_named.ensures.cause (cause_told c.args.work caused)
