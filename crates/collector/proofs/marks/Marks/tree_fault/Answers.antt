-- The fault of the first commit that has one; the one that was met where none has.
use Rattle.std.proofs.Common.{List, ℕ, ap, sym, subst, ◌∙◌}
use Rattle.collector.specs.Marking.{IsMarkFault, first_fault}
use Rattle.collector.specs.Marks.{MarksView}
use Rattle.collector.proofs.MarkingLemmas.{reads_met}
use Rattle.collector.proofs.marks.Marks.tree_fault.Goals as goal

pub returns-in-Ok-clause-value : goal.returns-in-Ok-clause-value
returns-in-Ok-clause-value g c = λ objects told some.
    absurd
    (some
    (ap (λ (marks : MarksView). first_fault objects marks.commits) (sym c.self.view_is) ∙ ap (first_fault objects) (sym c.slice.ensures.value)
    ∙ (c.in-Ok.ensures.value objects told).0))

pub returns-in-Ok-clause-stays : goal.returns-in-Ok-clause-stays
returns-in-Ok-clause-stays g c = reads_met c.args.met c.requires.ready c.requires.cause c.in-Ok.ensures.stays

pub returns-in-Err-clause-value : goal.returns-in-Err-clause-value
returns-in-Err-clause-value g c = λ objects told some.
    subst (λ (commits : List (List ℕ)). IsMarkFault objects commits c.in-Err.fault)
    (c.slice.ensures.value ∙ ap (λ (marks : MarksView). marks.commits) c.self.view_is) (c.in-Err.ensures.value objects told)
