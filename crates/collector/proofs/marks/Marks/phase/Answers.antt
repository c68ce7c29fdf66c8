-- What is due, by the two tests.
use Rattle.std.proofs.Common.{ap, subst, sym, ◌∙◌}
use Rattle.collector.specs.Marks.{AreMarks, phase_of}
use Rattle.collector.specs.Opened.{HaveOpened}
use Rattle.collector.proofs.MarkingLemmas.{is_marking, is_over, is_sweeping, marks_of}
use Rattle.collector.proofs.marks.Marks.phase.Goals as goal

pub returns-then-not-is_done : goal.returns-then-not-is_done
returns-then-not-is_done c = record {
  value =
      is_marking (marks_of c.self.inside.commits c.self.inside.work.opened c.self.inside.work.waiting c.self.inside.candidates)
      (sym c.is_done.ensures.value ∙ c.if-not-is_done.true)
      ∙ ap phase_of c.self.view_is;
  good = subst AreMarks c.self.view_is c.self.invariant.0;
  read = subst HaveOpened c.self.view_is c.self.invariant.1;
}

pub returns-then-len-eq0 : goal.returns-then-len-eq0
returns-then-len-eq0 c = record {
  value =
      is_over (marks_of c.self.inside.commits c.self.inside.work.opened c.self.inside.work.waiting c.self.inside.candidates)
      (sym c.is_done.ensures.value ∙ c.if-not-is_done.false) (sym c.len.ensures.value ∙ c.if-len-eq0.true)
      ∙ ap phase_of c.self.view_is;
  good = subst AreMarks c.self.view_is c.self.invariant.0;
  read = subst HaveOpened c.self.view_is c.self.invariant.1;
}

pub returns-else-len-eq0 : goal.returns-else-len-eq0
returns-else-len-eq0 c = record {
  value =
      is_sweeping (marks_of c.self.inside.commits c.self.inside.work.opened c.self.inside.work.waiting c.self.inside.candidates)
      (sym c.is_done.ensures.value ∙ c.if-not-is_done.false) (λ none. c.if-len-eq0.false (c.len.ensures.value ∙ none))
      ∙ ap phase_of c.self.view_is;
  good = subst AreMarks c.self.view_is c.self.invariant.0;
  read = subst HaveOpened c.self.view_is c.self.invariant.1;
}
