use Rattle.std.proofs.Common.{sym, ◌∙◌}
use Rattle.object_graph.proofs.KeyLemmas.{in_distinct}
use Rattle.object_graph.proofs.ReachingLemmas.{visited_reached}
use Rattle.object_graph.specs.Traversal.{walk_commit}
use Rattle.object_graph.proofs.laws.what_a_commit_needs_is_reached_from_it.Goals as goal

pub returns : goal.returns
returns c = λ objects id key needed. visited_reached objects id key (sym (in_distinct (walk_commit objects id).visits key) ∙ needed)
