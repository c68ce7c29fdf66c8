use Rattle.std.proofs.Common.{◌≡◌, true, sym, subst, ◌∙◌}
use Rattle.object_graph.proofs.KeyLemmas.{in_distinct, in_last}
use Rattle.object_graph.proofs.StoredLemmas.{commit_tells}
use Rattle.object_graph.specs.Traversal.{walk_commit, is_in}
use Rattle.object_graph.proofs.laws.an_incomplete_key_was_visited_and_is_not_stored.Goals as goal

pub returns-clause-last : goal.returns-clause-last
returns-clause-last c = λ objects id key is. let told = commit_tells objects id key is in (told.before, told.last)

pub returns-clause-needed : goal.returns-clause-needed
returns-clause-needed c = λ objects id key is.
    let told = commit_tells objects id key is in
    in_distinct (walk_commit objects id).visits key ∙ subst (λ keys. is_in keys key ≡ true) (sym told.last) (in_last told.before key)

pub returns-clause-absent : goal.returns-clause-absent
returns-clause-absent c = λ objects id key is. (commit_tells objects id key is).absent
