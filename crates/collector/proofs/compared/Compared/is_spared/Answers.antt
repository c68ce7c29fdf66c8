use Rattle.std.proofs.Common.{ap, ◌∙◌}
use Rattle.collector.specs.Compared.{ComparedView, is_spared}
use Rattle.collector.proofs.compared.Compared.is_spared.Goals as goal

pub returns : goal.returns
returns c = record { value = c.has.ensures.value ∙ ap (λ (compared : ComparedView). is_spared compared c.args.key.now) c.self.view_is }
