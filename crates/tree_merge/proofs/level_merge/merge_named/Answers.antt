-- The head's directory is looked at, and then the copies are told and the directory is made.
use Rattle.std.proofs.Common.{List, Option, ℕ, subst}
use Rattle.tree_merge.specs.HeadDirectory.{FindsOwn}
use Rattle.tree_merge.specs.LevelMerge.{MakesLevel, MakesNamed}
use Rattle.tree_merge.proofs.HeadDirectoryLemmas.{asked_directory}
use Rattle.tree_merge.proofs.TellingLemmas.{well_made}
use Rattle.tree_merge.proofs.level_merge.merge_named.Goals as goal

pub returns-in-Ok-clause-value : goal.returns-in-Ok-clause-value
returns-in-Ok-clause-value g c objects told directory =
    let found = (c.in-Ok.ensures.value objects told (asked_directory objects c.args.head.now c.args.work.now c.head_if-asked.result c.head_if-asked.ensures.value directory)).1 in
    well_made objects (MakesNamed objects c.args.path.now c.args.head.now c.args.named c.args.kept.now c.args.work.now c.make_level.new.work)
    (MakesLevel c.args.path.now c.args.named c.args.kept.now c.in-Ok.own c.args.work.now c.make_level.new.work) c.make_level.result c.make_level.ensures.memory
    (λ part makes. record {
      own = c.in-Ok.own;
      found = subst (λ (o : Option (List ℕ)). FindsOwn objects o c.args.named.nodes c.args.kept.now c.in-Ok.own) c.head_if-asked.ensures.value found;
      makes = makes;
    })
    c.make_level.ensures.ok

pub returns-in-Err-clause-value : goal.returns-in-Err-clause-value
returns-in-Err-clause-value g c objects told directory =
    c.in-Err.ensures.value objects told (asked_directory objects c.args.head.now c.args.work.now c.head_if-asked.result c.head_if-asked.ensures.value directory)
