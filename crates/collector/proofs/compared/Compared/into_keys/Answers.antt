use Rattle.std.proofs.Common.{ap, ◌++◌, ◌∙◌}
use Rattle.collector.specs.Compared.{ComparedView}
use Rattle.collector.proofs.compared.Compared.into_keys.Goals as goal

pub returns : goal.returns
returns c = record { value = c.into_keys.ensures.value ∙ ap (λ (compared : ComparedView). compared.opened ++ compared.waiting) c.self.view_is }
