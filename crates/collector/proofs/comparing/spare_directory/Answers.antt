use Rattle.std.proofs.Common.{List, ap, subst, sym, ◌∙◌}
use Rattle.ids.specs.declared.key.Key.{Key}
use Rattle.object_graph.specs.Reached.{entry_keys}
use Rattle.object_graph.specs.Traversal.{is_in}
use Rattle.collector.specs.Compared.{Spares}
use Rattle.collector.proofs.comparing.spare_directory.Goals as goal

pub returns-clause-value : goal.returns-clause-value
returns-clause-value c =
    subst (λ (names : List Key). Spares names c.args.compared.now c.spare.new.self)
    (c.slice.ensures.value ∙ c.in_ok-names.ensures.value ∙ ap entry_keys (c.as_slice.ensures.value ∙ c.in_ok-entries.ensures.value)) c.in_ok-spare.ensures.ok

pub returns-clause-listed : goal.returns-clause-listed
returns-clause-listed c = λ key there. ap (λ (keys : List Key). is_in keys key) (sym (ap entry_keys c.in_ok-entries.ensures.value)) ∙ there
