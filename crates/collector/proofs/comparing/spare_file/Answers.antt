use Rattle.std.proofs.Common.{List, rules, subst, ◌∙◌}
use Rattle.ids.specs.declared.key.Key.{Key}
use Rattle.collector.specs.Compared.{Spares}
use Rattle.collector.proofs.ComparedLemmas.{none_among}
use Rattle.collector.proofs.comparing.spare_file.Goals as goal

pub returns-clause-value : goal.returns-clause-value
returns-clause-value c =
    subst (λ (names : List Key). Spares names c.args.compared.now c.spare.new.self) (c.slice.ensures.value ∙ c.in_ok-names.ensures.value) c.in_ok-spare.ensures.ok

pub returns-clause-listed : goal.returns-clause-listed
returns-clause-listed c = none_among _ c.new.result.items (search rules)
