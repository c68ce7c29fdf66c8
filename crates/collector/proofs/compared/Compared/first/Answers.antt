use Rattle.std.proofs.Common.{ap, ◌∙◌}
use Rattle.collector.specs.Compared.{ComparedView}
use Rattle.collector.specs.Worklist.{first_of}
use Rattle.collector.proofs.compared.Compared.first.Goals as goal

pub returns : goal.returns
returns c = record { value = c.first.ensures.value ∙ ap (λ (compared : ComparedView). first_of compared.waiting) c.self.view_is }
