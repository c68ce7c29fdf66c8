-- The commit is complete where its keys were reached; else the first fault is due.
use Rattle.std.proofs.Common.{[], ap, ◌∙◌}
use Rattle.object_graph.specs.Traversal.{distinct_from, walk_commit}
use Rattle.tree_walk.proofs.ReadsLemmas.{told_after}
use Rattle.tree_walk.proofs.SeenLemmas.{chosen_all}
use Rattle.tree_walk.proofs.reaching.needs.Goals as goal

pub returns-in-Ok-reached-clause-value : goal.returns-in-Ok-reached-clause-value
returns-in-Ok-reached-clause-value g c = λ objects told.
    let complete = (c.in-Ok.ensures.value objects told).0 in
    (complete, c.in-Ok-reached.ensures.value objects (told_after c.in-Ok.ensures.stays told) complete ∙ ap (distinct_from []) (chosen_all (walk_commit objects c.args.commit).visits))
