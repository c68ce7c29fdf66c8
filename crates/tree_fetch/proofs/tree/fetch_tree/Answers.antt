-- What is held is read as the tree of all objects that have it.
use Rattle.std.proofs.Common.{sym, subst, Err}
use Rattle.tree_fetch.specs.Fetching.{FetchesTree, IsFetchedTree}
use Rattle.tree_fetch.proofs.TreeLemmas.{tree_failed, tree_got, tree_halts}
use Rattle.tree_fetch.proofs.tree.fetch_tree.Goals as goal

pub returns-in-Err-clause-value : goal.returns-in-Err-clause-value
returns-in-Err-clause-value g c =
    tree_halts c.args.asker.now (g.R.Remote.sends c.args.remote.now) (g.R.Remote.sends c.fetch_levels.new.remote) c.args.root c.in-Err.fault c.in-Err.ensures.value

pub returns-in-Ok-tree-clause-value : goal.returns-in-Ok-tree-clause-value
returns-in-Ok-tree-clause-value g c =
    subst (λ held. IsFetchedTree c.args.asker.now (g.R.Remote.sends c.args.remote.now) (g.R.Remote.sends c.fetch_levels.new.remote) c.args.root (record { objects = held; entries = c.in-Ok-tree.entries }))
    (sym c.in-Ok-tree.ensures.stays)
    (tree_got c.args.asker.now (g.R.Remote.sends c.args.remote.now) (g.R.Remote.sends c.fetch_levels.new.remote) c.args.root c.in-Ok.objects c.in-Ok.ensures.value.0 c.in-Ok.ensures.value.1
    c.in-Ok-tree.entries c.in-Ok-tree.ensures.value)

pub returns-in-Err-tree-clause-value : goal.returns-in-Err-tree-clause-value
returns-in-Err-tree-clause-value g c =
    subst (λ why. FetchesTree c.args.asker.now (g.R.Remote.sends c.args.remote.now) (g.R.Remote.sends c.fetch_levels.new.remote) c.args.root (Err why)) (sym c.tree_fault.ensures.value)
    (tree_failed c.args.asker.now (g.R.Remote.sends c.args.remote.now) (g.R.Remote.sends c.fetch_levels.new.remote) c.args.root c.in-Ok.objects c.in-Ok.ensures.value.0 c.in-Ok.ensures.value.1
    c.in-Err-tree.fault c.in-Err-tree.ensures.value)
