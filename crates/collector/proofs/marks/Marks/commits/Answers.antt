use Rattle.std.proofs.Common.{ap, ◌∙◌}
use Rattle.collector.specs.Marks.{MarksView}
use Rattle.collector.proofs.marks.Marks.commits.Goals as goal

pub returns : goal.returns
returns c = record { value = c.slice.ensures.value ∙ ap (λ (marks : MarksView). marks.commits) c.self.view_is }
