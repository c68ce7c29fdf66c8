use Rattle.std.proofs.Common.{eq-eqb}
use Rattle.tree_merge.proofs.TellingLemmas.{same_found, well_more}
use Rattle.tree_merge.proofs.file_merge.same_versions.Goals as goal

pub returns-clause-value : goal.returns-clause-value
returns-clause-value g c objects told compared more keeps whole other =
    well_more objects _ _ c.same_contents.result (λ same is. same_found objects more keeps c.args.left.now c.args.right.now same whole other (eq-eqb c.args.left.now.mode c.args.right.now.mode c.if-left-right.false) is)
    (c.same_contents.ensures.value objects told compared whole other)
