-- The head's directory is read, and its entries are compared with the merged ones.
use Rattle.std.proofs.Common.{refl, subst}
use Rattle.object_graph.specs.Objects.{dirents_at}
use Rattle.tree_model.specs.Path.{PathV}
use Rattle.tree_merge.specs.Level.{Tells}
use Rattle.tree_merge.specs.Opening.{IsDirectoryIf}
use Rattle.tree_merge.proofs.HeadDirectoryLemmas.{found_own}
use Rattle.tree_merge.proofs.head_directory.heads_own.Goals as goal

pub returns-in-Ok-clause-value : goal.returns-in-Ok-clause-value
returns-in-Ok-clause-value g c objects told directory =
    let tells = c.in-Ok.ensures.value objects told (subst (IsDirectoryIf objects) c.in-Some.is directory) in (
      refl,
      found_own objects c.args.head.now c.in-Some.id c.args.nodes.now c.args.kept.now c.in-Ok.listed c.in-Some.is
          (subst (λ (p : PathV). Tells p (dirents_at objects c.in-Some.id) c.in-Ok.listed) c.root-root.ensures.value tells.1) c.if_just.result c.if_just.ensures.some c.if_just.ensures.none,
    )

pub returns-clause-value : goal.returns-clause-value
returns-clause-value g c objects told directory = c.in-Err.ensures.value objects told (subst (IsDirectoryIf objects) c.in-Some.is directory)

-- there is no head's directory
pub returns-in-None-clause-value : goal.returns-in-None-clause-value
returns-in-None-clause-value g c objects told directory = (refl, λ id asked right. (let both = c.in-None.is in cc (both, asked)))
