use Rattle.std.proofs.Common.{sym, ◌∙◌}
use Rattle.object_graph.proofs.KeyLemmas.{in_distinct}
use Rattle.object_graph.proofs.ReachingLemmas.{commit_closes, reached_within}
use Rattle.object_graph.specs.Traversal.{walk_commit}
use Rattle.object_graph.proofs.laws.a_complete_commit_needs_all_that_is_reached_from_it.Goals as goal

pub returns-clause-named : goal.returns-clause-named
returns-clause-named c = λ objects id complete above key needed is.
    in_distinct (walk_commit objects id).visits key
    ∙ commit_closes objects id complete above key (sym (in_distinct (walk_commit objects id).visits above) ∙ needed) is

pub returns-clause-reached : goal.returns-clause-reached
returns-clause-reached c = λ objects id complete key from. in_distinct (walk_commit objects id).visits key ∙ reached_within objects id complete key from
