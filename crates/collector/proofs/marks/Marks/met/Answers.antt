use Rattle.std.proofs.Common.{ap, ◌++◌, ◌∙◌}
use Rattle.collector.specs.Marks.{MarksView}
use Rattle.collector.proofs.marks.Marks.met.Goals as goal

pub returns : goal.returns
returns c = record { value = c.keys.ensures.value ∙ ap (λ (marks : MarksView). marks.marked ++ marks.pending) c.self.view_is }
