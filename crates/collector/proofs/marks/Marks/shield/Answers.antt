-- The keys are no candidates any more, and nothing else is changed.
use Rattle.std.proofs.Common.{◌&&◌, List, ap, not, refl, sym, ◌∙◌}
use Rattle.std.proofs.lemmas.Bool.{and_parts}
use Rattle.ids.specs.declared.key.Key.{Key}
use Rattle.object_graph.specs.Traversal.{is_in}
use Rattle.collector.specs.Marks.{MarksView, is_candidate}
use Rattle.collector.specs.Sweeping.{is_listed}
use Rattle.collector.proofs.LeadingLemmas.{fewer_good}
use Rattle.collector.proofs.MarkingLemmas.{marks_of}
use Rattle.collector.proofs.OpenedLemmas.{have_same}
use Rattle.collector.proofs.marks.Marks.shield.Goals as goal

pub returns-clause-value : goal.returns-clause-value
returns-clause-value c = λ key.
    c.take_out.ensures.value key
    ∙ ap (λ (keys : List Key). is_listed c.self.inside.candidates key && not (is_in keys key)) c.slice.ensures.value
    ∙ ap (λ (marks : MarksView). is_candidate marks key && not (is_in c.args.keys.now key)) c.self.view_is

pub returns-clause-stays : goal.returns-clause-stays
returns-clause-stays c = record {
  commits = ap (λ (marks : MarksView). marks.commits) c.self.view_is;
  marked = ap (λ (marks : MarksView). marks.marked) c.self.view_is;
  pending = ap (λ (marks : MarksView). marks.pending) c.self.view_is;
}

pub invariant_of-self : goal.invariant_of-self
invariant_of-self c = (
  fewer_good (marks_of c.self.inside.commits c.self.inside.work.opened c.self.inside.work.waiting c.self.inside.candidates)
      (marks_of c.self.inside.commits c.self.inside.work.opened c.self.inside.work.waiting c.take_out.new.candidates) refl refl
      (λ key there. (and_parts (is_listed c.self.inside.candidates key) (not (is_in c.slice.result.now key)) (sym (c.take_out.ensures.value key) ∙ there)).0)
      c.self.invariant.0,
  have_same (marks_of c.self.inside.commits c.self.inside.work.opened c.self.inside.work.waiting c.self.inside.candidates)
      (marks_of c.self.inside.commits c.self.inside.work.opened c.self.inside.work.waiting c.take_out.new.candidates) (record { commits = refl; marked = refl; pending = refl }) c.self.invariant.1,
)

pub returns-clause-good : goal.returns-clause-good
returns-clause-good c = (invariant_of-self c).0

pub returns-clause-read : goal.returns-clause-read
returns-clause-read c = (invariant_of-self c).1
