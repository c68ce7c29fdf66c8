-- Nothing is taken while an object waits; else what was taken is told, with the fault that ended it.
use Rattle.std.proofs.Common.{◌≡◌, IsSome, List, Option, ap, arith, length, not, refl, rules, subst, sym, true, ◌∙◌}
use Rattle.std.specs.Prelude.{min}
use Rattle.std.specs.Result.{result_err}
use Rattle.std.specs.FinMap as map
use Rattle.std.proofs.lemmas.Bool.{and_parts}
use Rattle.ids.specs.declared.key.Key.{Key}
use Rattle.object_graph.specs.Traversal.{is_in}
use Rattle.object_store.specs.declared.error.StoreFault.{StoreFault}
use Rattle.collector.specs.Marks.{AreMarks, Candidates, MarksView}
use Rattle.collector.specs.Opened.{HaveOpened}
use Rattle.collector.specs.Sweeping.{StraysAtEnd, Took, TookLeast, is_listed}
use Rattle.collector.proofs.LeadingLemmas.{fewer_good}
use Rattle.collector.proofs.MarkingLemmas.{marks_of}
use Rattle.collector.proofs.OpenedLemmas.{have_same}
use Rattle.collector.proofs.SweepLemmas.{ended_counted, ended_free, ended_told, ended_well, least_none, took_nothing}
use Rattle.collector.proofs.WorklistLemmas.{nothing_waits, some_waiting}
use Rattle.collector.proofs.marks.Marks.sweep.Goals as goal

-- an object waits
pub returns-then-not-is_done-clause-value : goal.returns-then-not-is_done-clause-value
returns-then-not-is_done-clause-value g c = took_nothing g.S.Shelf.contents c.args.store.now c.args.self.now.candidates c.answer_of.result.removed (search rules)

pub returns-then-not-is_done-clause-size : goal.returns-then-not-is_done-clause-size
returns-then-not-is_done-clause-size g c = λ none whole.
    absurd
    (some_waiting c.self.inside.work.waiting (sym c.is_done.ensures.value ∙ c.if-not-is_done.true) (ap (λ (marks : MarksView). marks.pending) c.self.view_is ∙ none))

pub returns-then-not-is_done-clause-good : goal.returns-then-not-is_done-clause-good
returns-then-not-is_done-clause-good g c = subst AreMarks c.self.view_is c.self.invariant.0

pub returns-then-not-is_done-clause-read : goal.returns-then-not-is_done-clause-read
returns-then-not-is_done-clause-read g c = subst HaveOpened c.self.view_is c.self.invariant.1

pub returns-then-not-is_done-clause-stays : goal.returns-then-not-is_done-clause-stays
returns-then-not-is_done-clause-stays g c = record { commits = refl; marked = refl; pending = refl }

pub returns-then-not-is_done-clause-order : goal.returns-then-not-is_done-clause-order
returns-then-not-is_done-clause-order g c = least_none c.args.self.now.candidates c.answer_of.result.removed (search rules)

pub returns-then-not-is_done-clause-lying : goal.returns-then-not-is_done-clause-lying
returns-then-not-is_done-clause-lying g c =
    subst (λ (fault : Option StoreFault). StraysAtEnd g.S.Shelf.contents c.args.store.now c.args.store.now c.answer_of.result.removed fault) (sym c.answer_of.ensures.value.1) (λ key stray. stray)

-- none waits
pub returns-clause-value : goal.returns-clause-value
returns-clause-value g c =
    subst (λ (before : Candidates). Took g.S.Shelf.contents c.args.store.now c.take_some-ended.new.store before c.take_some-ended.new.candidates c.answer_of-2.result.removed)
    (ap (λ (marks : MarksView). marks.candidates) c.self.view_is)
    (subst (λ (keys : List Key). Took g.S.Shelf.contents c.args.store.now c.take_some-ended.new.store c.self.inside.candidates c.take_some-ended.new.candidates keys)
    (sym c.answer_of-2.ensures.value.0) c.take_some-ended.ensures.value)

pub take_some-ended-requires : goal.take_some-ended-requires
take_some-ended-requires g c = record {
  stored = subst (λ (marks : MarksView). (key : Key) → is_listed marks.candidates key ≡ true → IsSome (map.get c.args.store.now.index key)) (sym c.self.view_is) c.requires.stored;
  ready = search rules;
}

pub returns-clause-none : goal.returns-clause-none
returns-clause-none g c = λ some.
    absurd
    (some
    (ap (λ (marks : MarksView). marks.pending) (sym c.self.view_is)
    ∙ nothing_waits c.self.inside.work.waiting (sym c.is_done.ensures.value ∙ c.if-not-is_done.false)))

pub returns-clause-size : goal.returns-clause-size
returns-clause-size g c = λ none whole.
    let all =
    ended_well (λ done. length c.take_some-ended.new.removed.items ≡ min c.args.at_most (map.len c.self.inside.candidates)) c.take_some-ended.result c.answer_of-2.result.fault
    c.answer_of-2.ensures.value.1 whole c.take_some-ended.ensures.size in
    ap length c.answer_of-2.ensures.value.0 ∙ all ∙ ap (λ (marks : MarksView). min c.args.at_most (map.len marks.candidates)) c.self.view_is

pub returns-clause-few : goal.returns-clause-few
returns-clause-few g c = omega (arith, ap length c.answer_of-2.ensures.value.0, c.take_some-ended.ensures.few)

pub returns-clause-free : goal.returns-clause-free
returns-clause-free g c = ended_free c.take_some-ended.result c.answer_of-2.result.fault c.answer_of-2.ensures.value.1 c.take_some-ended.ensures.free

pub returns-clause-failed : goal.returns-clause-failed
returns-clause-failed g c =
    ended_told c.take_some-ended.result c.answer_of-2.result.fault c.take_some-ended.new.removed.items c.answer_of-2.result.removed c.answer_of-2.ensures.value.1
    c.answer_of-2.ensures.value.0 c.take_some-ended.ensures.failed

pub returns-clause-order : goal.returns-clause-order
returns-clause-order g c = subst (λ (keys : List Key). TookLeast c.take_some-ended.new.candidates keys) (sym c.answer_of-2.ensures.value.0) c.take_some-ended.ensures.order

pub returns-clause-lying : goal.returns-clause-lying
returns-clause-lying g c =
    subst (λ (fault : Option StoreFault). StraysAtEnd g.S.Shelf.contents c.args.store.now c.take_some-ended.new.store c.answer_of-2.result.removed fault) (sym c.answer_of-2.ensures.value.1)
    (subst (λ (keys : List Key). StraysAtEnd g.S.Shelf.contents c.args.store.now c.take_some-ended.new.store keys (result_err c.take_some-ended.result)) (sym c.answer_of-2.ensures.value.0)
    c.take_some-ended.ensures.lying)

pub returns-clause-faults : goal.returns-clause-faults
returns-clause-faults g c =
    ended_counted (g.S.Shelf.faults c.args.store.now.shelf) (g.S.Shelf.faults c.take_some-ended.new.store.shelf) c.take_some-ended.result c.answer_of-2.result.fault
    c.answer_of-2.ensures.value.1 c.take_some-ended.ensures.faults

pub returns-clause-stays : goal.returns-clause-stays
returns-clause-stays g c = record {
  commits = ap (λ (marks : MarksView). marks.commits) c.self.view_is;
  marked = ap (λ (marks : MarksView). marks.marked) c.self.view_is;
  pending = ap (λ (marks : MarksView). marks.pending) c.self.view_is;
}

pub invariant_of-self : goal.invariant_of-self
invariant_of-self g c = (
  fewer_good (marks_of c.self.inside.commits c.self.inside.work.opened c.self.inside.work.waiting c.self.inside.candidates)
      (marks_of c.self.inside.commits c.self.inside.work.opened c.self.inside.work.waiting c.take_some-ended.new.candidates) refl refl
      (λ key there. (and_parts (is_listed c.self.inside.candidates key) (not (is_in c.take_some-ended.new.removed.items key)) (sym (c.take_some-ended.ensures.value.candidates key) ∙ there)).0)
      c.self.invariant.0,
  have_same (marks_of c.self.inside.commits c.self.inside.work.opened c.self.inside.work.waiting c.self.inside.candidates)
      (marks_of c.self.inside.commits c.self.inside.work.opened c.self.inside.work.waiting c.take_some-ended.new.candidates) (record { commits = refl; marked = refl; pending = refl })
      c.self.invariant.1,
)

pub returns-clause-good : goal.returns-clause-good
returns-clause-good g c = (invariant_of-self g c).0

pub returns-clause-read : goal.returns-clause-read
returns-clause-read g c = (invariant_of-self g c).1
