use Rattle.std.proofs.Common.{◌==◌, ap, length, subst, ◌∙◌}
use Rattle.collector.specs.Marks.{AreMarks, MarksView}
use Rattle.collector.specs.Opened.{HaveOpened}
use Rattle.collector.proofs.marks.Marks.is_done.Goals as goal

pub returns-clause-value : goal.returns-clause-value
returns-clause-value c = c.is_done.ensures.value ∙ ap (λ (marks : MarksView). length marks.pending == 0) c.self.view_is

pub returns-clause-good : goal.returns-clause-good
returns-clause-good c = subst AreMarks c.self.view_is c.self.invariant.0

pub returns-clause-read : goal.returns-clause-read
returns-clause-read c = subst HaveOpened c.self.view_is c.self.invariant.1
