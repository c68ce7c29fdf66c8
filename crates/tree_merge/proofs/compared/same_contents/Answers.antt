-- The pair was compared, or both files are read.
use Rattle.std.proofs.Common.{Ok, Err}
use Rattle.tree_walk.specs.Files.{files_due}
use Rattle.tree_merge.specs.Compared.{IsSame}
use Rattle.tree_merge.proofs.TellingLemmas.{two_whole, well_of}
use Rattle.tree_merge.proofs.compared.same_contents.Goals as goal

pub returns-in-Err-clause-value : goal.returns-in-Err-clause-value
returns-in-Err-clause-value g c objects told compared whole other =
    well_of objects (files_due objects c.args.left c.args.right) (IsSame objects c.args.left c.args.right) (Err c.in-Err.fault) (two_whole objects c.args.left c.args.right whole other)
    (c.in-Err.ensures.value objects told)

pub returns-clause-value : goal.returns-clause-value
returns-clause-value g c objects told compared whole other =
    well_of objects (files_due objects c.args.left c.args.right) (IsSame objects c.args.left c.args.right) (Ok c.in-Ok.same) (two_whole objects c.args.left c.args.right whole other)
    (c.in-Ok.ensures.value objects told)

pub returns-clause-known : goal.returns-clause-known
returns-clause-known g c objects told compared = c.keep.ensures.value objects compared (c.in-Ok.ensures.value objects told).1
