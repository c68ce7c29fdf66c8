-- As tree_walk reads a commit.
use Rattle.std.proofs.Common.{List, Some, ◌++◌, ap, ◌∙◌, rules}
use Rattle.ids.specs.declared.key.Key.{Key}
use Rattle.object_graph.specs.Objects.{commit_in}
use Rattle.object_graph.specs.Reached.{own_keys}
use Rattle.collector.proofs.NamingLemmas.{commit_names}
use Rattle.collector.proofs.naming.root_of.Goals as goal

pub returns-in-Ok-push_own-clause-value : goal.returns-in-Ok-push_own-clause-value
returns-in-Ok-push_own-clause-value c = λ objects.
    commit_names objects (commit_in c.args.id.now (Some c.args.bytes.now)) c.in-Ok.commit c.push_own.new.names (search rules)
    (c.in-Ok-push_own.ensures.ok ∙ ap (λ (names : List Key). names ++ own_keys c.in-Ok.commit.root) c.new-names.ensures.value)
