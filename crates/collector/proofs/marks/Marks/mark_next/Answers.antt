-- The object that waits first is marked, after what it names was met.
use Rattle.std.proofs.Common.{◌≢◌, ◌+◌, List, [], ap, length, refl, subst, sym, ◌∙◌}
use Rattle.ids.specs.declared.key.Key.{Key}
use Rattle.object_graph.specs.Traversal.{distinct_from}
use Rattle.object_store.specs.declared.error.StoreFault.TheVariants as store
use Rattle.tree_walk.proofs.ReadsLemmas.{read_ok, read_stops}
use Rattle.tree_walk.specs.declared.fault.WalkFault.TheVariants as walk
use Rattle.collector.specs.Marking.{FailsToMark, HasMarked, MarksOne, WaitsWith}
use Rattle.collector.specs.Marks.{AreMarks, MarksView}
use Rattle.collector.specs.Opened.{HaveOpened, OpensFirst, OpensMore, ReadsNames}
use Rattle.collector.specs.Naming.{names_at}
use Rattle.collector.specs.Worklist.{MeetsFront, WorklistView, all_met}
use Rattle.collector.proofs.MarkingLemmas.{fails_to_mark, good_met, good_next, has_marked_none, has_marked_one, has_marked_same, marks_next, marks_of, size_next, steps_on, waits_met, waits_none}
use Rattle.collector.proofs.NamingLemmas.{names_named}
use Rattle.collector.proofs.OpenedLemmas.{given_wider, have_more, opens_first, opens_none, opens_one, opens_waiting}
use Rattle.collector.proofs.WorklistLemmas.{inner_some, none_first}
use Rattle.collector.proofs.marks.Marks.mark_next.Goals as goal

-- where none waits
pub returns-in-None-clause-ok : goal.returns-in-None-clause-ok
returns-in-None-clause-ok g c = λ objects told.
    absurd (c.requires.some (ap (λ (marks : MarksView). marks.pending) (sym c.self.view_is) ∙ none_first c.self.inside.work.waiting c.in-None.ensures.value))

pub returns-in-None-clause-size : goal.returns-in-None-clause-size
returns-in-None-clause-size g c =
    absurd (c.requires.some (ap (λ (marks : MarksView). marks.pending) (sym c.self.view_is) ∙ none_first c.self.inside.work.waiting c.in-None.ensures.value))

pub returns-in-None-clause-left : goal.returns-in-None-clause-left
returns-in-None-clause-left g c = has_marked_none c.args.self.now

pub returns-in-None-clause-opened : goal.returns-in-None-clause-opened
returns-in-None-clause-opened g c = opens_none c.args.store.now.index (g.S.Shelf.may_give c.args.store.now.shelf) c.args.self.now

pub returns-in-None-clause-first : goal.returns-in-None-clause-first
returns-in-None-clause-first g c =
    absurd (c.requires.some (ap (λ (marks : MarksView). marks.pending) (sym c.self.view_is) ∙ none_first c.self.inside.work.waiting c.in-None.ensures.value))

pub returns-in-None-clause-good : goal.returns-in-None-clause-good
returns-in-None-clause-good g c = subst AreMarks c.self.view_is c.self.invariant.0

pub returns-in-None-clause-read : goal.returns-in-None-clause-read
returns-in-None-clause-read g c = subst HaveOpened c.self.view_is c.self.invariant.1

-- where the object can't be read
pub returns-in-Err-clause-err : goal.returns-in-Err-clause-err
returns-in-Err-clause-err g c = λ objects told. waits_none objects c.args.self.now

pub returns-in-Err-clause-left : goal.returns-in-Err-clause-left
returns-in-Err-clause-left g c = has_marked_none c.args.self.now

pub returns-in-Err-clause-cause : goal.returns-in-Err-clause-cause
returns-in-Err-clause-cause g c = λ objects told.
    subst (λ (m : MarksView). FailsToMark objects m c.in-Err.fault) c.self.view_is
    (fails_to_mark objects c.self.inside.commits c.self.inside.work.opened c.self.inside.work.waiting c.self.inside.candidates c.in-Some.key c.in-Err.fault c.in-Some.ensures.value (c.in-Err.ensures.value objects told)
    (c.in-Err.ensures.damaged objects told))

pub returns-in-Err-clause-opened : goal.returns-in-Err-clause-opened
returns-in-Err-clause-opened g c = opens_none c.args.store.now.index (g.S.Shelf.may_give c.args.store.now.shelf) c.args.self.now

pub returns-in-Err-clause-good : goal.returns-in-Err-clause-good
returns-in-Err-clause-good g c = subst AreMarks c.self.view_is c.self.invariant.0

pub returns-in-Err-clause-read : goal.returns-in-Err-clause-read
returns-in-Err-clause-read g c = subst HaveOpened c.self.view_is c.self.invariant.1

-- where there is no memory to meet what it names
pub returns-in-Err-meet_all-clause-err : goal.returns-in-Err-meet_all-clause-err
returns-in-Err-meet_all-clause-err g c = λ objects told.
    subst (λ (m : MarksView). WaitsWith objects m (marks_of c.self.inside.commits c.meet_all.new.self.opened c.meet_all.new.self.waiting c.self.inside.candidates)) c.self.view_is
    (waits_met objects c.self.inside.commits c.in-Ok.names c.in-Some.key c.self.inside.work c.meet_all.new.self c.self.inside.candidates c.in-Some.ensures.value
    (sym (names_named objects c.in-Some.key c.in-Ok.names (read_ok objects _ _ (c.in-Ok.ensures.value objects told))))
    (subst (λ (keys : List Key). MeetsFront keys c.self.inside.work c.meet_all.new.self) c.slice.ensures.value c.in-Err-meet_all.ensures.err))

pub returns-in-Err-meet_all-clause-left : goal.returns-in-Err-meet_all-clause-left
returns-in-Err-meet_all-clause-left g c =
    subst (λ (m : MarksView). HasMarked m (marks_of c.self.inside.commits c.meet_all.new.self.opened c.meet_all.new.self.waiting c.self.inside.candidates)) c.self.view_is (has_marked_same (marks_of c.self.inside.commits c.self.inside.work.opened c.self.inside.work.waiting c.self.inside.candidates) (marks_of c.self.inside.commits c.meet_all.new.self.opened c.meet_all.new.self.waiting c.self.inside.candidates) refl c.in-Err-meet_all.ensures.err.opened refl)

pub returns-in-Err-meet_all-clause-cause : goal.returns-in-Err-meet_all-clause-cause
returns-in-Err-meet_all-clause-cause g c = λ objects told.
    subst (λ (m : MarksView). FailsToMark objects m (walk.Store store.NoMemory)) c.self.view_is
    (fails_to_mark objects c.self.inside.commits c.self.inside.work.opened c.self.inside.work.waiting c.self.inside.candidates c.in-Some.key (walk.Store store.NoMemory) c.in-Some.ensures.value
    (read_stops objects (names_at objects c.in-Some.key) store.NoMemory tt) tt)

pub invariant_of-self : goal.invariant_of-self
invariant_of-self g c =
    let old : MarksView = marks_of c.self.inside.commits c.self.inside.work.opened c.self.inside.work.waiting c.self.inside.candidates in
    let new : MarksView = marks_of c.self.inside.commits c.meet_all.new.self.opened c.meet_all.new.self.waiting c.self.inside.candidates in (
      good_met c.self.inside.commits c.slice.result.now c.self.inside.work c.meet_all.new.self c.self.inside.candidates c.in-Err-meet_all.ensures.err c.self.invariant.0,
      have_more c.args.store.now.index (g.S.Shelf.may_give c.args.store.now.shelf) old new c.self.invariant.1
          (opens_waiting c.args.store.now.index (g.S.Shelf.may_give c.args.store.now.shelf) old new (distinct_from (all_met c.self.inside.work) c.in-Err-meet_all.ensures.err.front)
          c.in-Err-meet_all.ensures.err.opened c.in-Err-meet_all.ensures.err.waiting) refl,
    )

pub returns-in-Err-meet_all-clause-good : goal.returns-in-Err-meet_all-clause-good
returns-in-Err-meet_all-clause-good g c = (invariant_of-self g c).0

pub returns-in-Err-meet_all-clause-read : goal.returns-in-Err-meet_all-clause-read
returns-in-Err-meet_all-clause-read g c = (invariant_of-self g c).1

pub returns-in-Err-meet_all-clause-opened : goal.returns-in-Err-meet_all-clause-opened
returns-in-Err-meet_all-clause-opened g c =
    let new : MarksView = marks_of c.self.inside.commits c.meet_all.new.self.opened c.meet_all.new.self.waiting c.self.inside.candidates in
    subst (λ (m : MarksView). OpensMore c.args.store.now.index (g.S.Shelf.may_give c.args.store.now.shelf) m new) c.self.view_is
    (opens_waiting c.args.store.now.index (g.S.Shelf.may_give c.args.store.now.shelf) (marks_of c.self.inside.commits c.self.inside.work.opened c.self.inside.work.waiting c.self.inside.candidates) new
    (distinct_from (all_met c.self.inside.work) c.in-Err-meet_all.ensures.err.front) c.in-Err-meet_all.ensures.err.opened c.in-Err-meet_all.ensures.err.waiting)

-- where it is marked
pub returns-clause-ok : goal.returns-clause-ok
returns-clause-ok g c = λ objects told.
    let some = inner_some c.self.inside.work.waiting c.in-Some.key (distinct_from (all_met c.self.inside.work) c.slice.result.now) c.in-Some.ensures.value in
    let steps = steps_on c.slice.result.now c.in-Some.key c.self.inside.work c.meet_all.new.self c.open.new.self c.in-Some.ensures.value c.in-Ok-meet_all.ensures.ok
    (c.open.ensures.value (subst (λ (w : WorklistView). w.waiting ≢ []) (sym c.in-Ok-meet_all.ensures.ok) some)) in
    subst (λ (m : MarksView). MarksOne objects m (marks_of c.self.inside.commits c.open.new.self.opened c.open.new.self.waiting c.remove.new.self)) c.self.view_is
    (marks_next objects c.self.inside.commits c.slice.result.now c.in-Some.key c.self.inside.work c.open.new.self c.self.inside.candidates c.remove.new.self steps
    (c.slice.ensures.value ∙ sym (names_named objects c.in-Some.key c.in-Ok.names (read_ok objects _ _ (c.in-Ok.ensures.value objects told)))) c.remove.ensures.stays)

pub returns-clause-size : goal.returns-clause-size
returns-clause-size g c =
    let some = inner_some c.self.inside.work.waiting c.in-Some.key (distinct_from (all_met c.self.inside.work) c.slice.result.now) c.in-Some.ensures.value in
    let steps = steps_on c.slice.result.now c.in-Some.key c.self.inside.work c.meet_all.new.self c.open.new.self c.in-Some.ensures.value c.in-Ok-meet_all.ensures.ok
    (c.open.ensures.value (subst (λ (w : WorklistView). w.waiting ≢ []) (sym c.in-Ok-meet_all.ensures.ok) some)) in
    size_next c.slice.result.now c.in-Some.key c.self.inside.work c.open.new.self steps ∙ ap (λ (m : MarksView). length m.marked + 1) c.self.view_is

pub returns-clause-left : goal.returns-clause-left
returns-clause-left g c =
    let some = inner_some c.self.inside.work.waiting c.in-Some.key (distinct_from (all_met c.self.inside.work) c.slice.result.now) c.in-Some.ensures.value in
    let steps = steps_on c.slice.result.now c.in-Some.key c.self.inside.work c.meet_all.new.self c.open.new.self c.in-Some.ensures.value c.in-Ok-meet_all.ensures.ok
    (c.open.ensures.value (subst (λ (w : WorklistView). w.waiting ≢ []) (sym c.in-Ok-meet_all.ensures.ok) some)) in
    subst (λ (m : MarksView). HasMarked m (marks_of c.self.inside.commits c.open.new.self.opened c.open.new.self.waiting c.remove.new.self)) c.self.view_is (has_marked_one (marks_of c.self.inside.commits c.self.inside.work.opened c.self.inside.work.waiting c.self.inside.candidates) (marks_of c.self.inside.commits c.open.new.self.opened c.open.new.self.waiting c.remove.new.self) c.in-Some.key refl steps.marked c.remove.ensures.stays)

pub returns-clause-opened : goal.returns-clause-opened
returns-clause-opened g c =
    let some = inner_some c.self.inside.work.waiting c.in-Some.key (distinct_from (all_met c.self.inside.work) c.slice.result.now) c.in-Some.ensures.value in
    let steps = steps_on c.slice.result.now c.in-Some.key c.self.inside.work c.meet_all.new.self c.open.new.self c.in-Some.ensures.value c.in-Ok-meet_all.ensures.ok
    (c.open.ensures.value (subst (λ (w : WorklistView). w.waiting ≢ []) (sym c.in-Ok-meet_all.ensures.ok) some)) in
    let old : MarksView = marks_of c.self.inside.commits c.self.inside.work.opened c.self.inside.work.waiting c.self.inside.candidates in
    let new : MarksView = marks_of c.self.inside.commits c.open.new.self.opened c.open.new.self.waiting c.remove.new.self in
    let reads = subst (λ (keys : List Key). ReadsNames (g.S.Shelf.may_give c.args.store.now.shelf) c.in-Some.key.kind c.in-Some.key keys) (sym c.slice.ensures.value)
    (given_wider (g.S.Shelf.may_give c.args.store.now.shelf) (g.S.Shelf.may_give c.names_at.new.store.shelf) c.in-Ok.ensures.stays.shelf.gives c.in-Some.key.kind c.in-Some.key c.in-Ok.names c.in-Ok.ensures.whole) in
    subst (λ (m : MarksView). OpensMore c.args.store.now.index (g.S.Shelf.may_give c.args.store.now.shelf) m new) c.self.view_is
    (opens_one c.args.store.now.index (g.S.Shelf.may_give c.args.store.now.shelf) old new c.in-Some.key steps.rest c.slice.result.now steps.first steps.marked steps.pending c.in-Ok.ensures.known reads)

pub returns-clause-first : goal.returns-clause-first
returns-clause-first g c =
    let some = inner_some c.self.inside.work.waiting c.in-Some.key (distinct_from (all_met c.self.inside.work) c.slice.result.now) c.in-Some.ensures.value in
    let steps = steps_on c.slice.result.now c.in-Some.key c.self.inside.work c.meet_all.new.self c.open.new.self c.in-Some.ensures.value c.in-Ok-meet_all.ensures.ok
    (c.open.ensures.value (subst (λ (w : WorklistView). w.waiting ≢ []) (sym c.in-Ok-meet_all.ensures.ok) some)) in
    let old : MarksView = marks_of c.self.inside.commits c.self.inside.work.opened c.self.inside.work.waiting c.self.inside.candidates in
    let new : MarksView = marks_of c.self.inside.commits c.open.new.self.opened c.open.new.self.waiting c.remove.new.self in
    let reads = subst (λ (keys : List Key). ReadsNames (g.S.Shelf.may_give c.args.store.now.shelf) c.in-Some.key.kind c.in-Some.key keys) (sym c.slice.ensures.value)
    (given_wider (g.S.Shelf.may_give c.args.store.now.shelf) (g.S.Shelf.may_give c.names_at.new.store.shelf) c.in-Ok.ensures.stays.shelf.gives c.in-Some.key.kind c.in-Some.key c.in-Ok.names c.in-Ok.ensures.whole) in
    subst (λ (m : MarksView). OpensFirst c.args.store.now.index (g.S.Shelf.may_give c.args.store.now.shelf) m new) c.self.view_is
    (opens_first c.args.store.now.index (g.S.Shelf.may_give c.args.store.now.shelf) old new c.in-Some.key steps.rest c.slice.result.now steps.first steps.marked steps.pending c.in-Ok.ensures.known reads)

pub invariant_of-self-2 : goal.invariant_of-self-2
invariant_of-self-2 g c =
    let some = inner_some c.self.inside.work.waiting c.in-Some.key (distinct_from (all_met c.self.inside.work) c.slice.result.now) c.in-Some.ensures.value in
    let steps = steps_on c.slice.result.now c.in-Some.key c.self.inside.work c.meet_all.new.self c.open.new.self c.in-Some.ensures.value c.in-Ok-meet_all.ensures.ok
    (c.open.ensures.value (subst (λ (w : WorklistView). w.waiting ≢ []) (sym c.in-Ok-meet_all.ensures.ok) some)) in
    let old : MarksView = marks_of c.self.inside.commits c.self.inside.work.opened c.self.inside.work.waiting c.self.inside.candidates in
    let new : MarksView = marks_of c.self.inside.commits c.open.new.self.opened c.open.new.self.waiting c.remove.new.self in
    let reads = subst (λ (keys : List Key). ReadsNames (g.S.Shelf.may_give c.args.store.now.shelf) c.in-Some.key.kind c.in-Some.key keys) (sym c.slice.ensures.value)
    (given_wider (g.S.Shelf.may_give c.args.store.now.shelf) (g.S.Shelf.may_give c.names_at.new.store.shelf) c.in-Ok.ensures.stays.shelf.gives c.in-Some.key.kind c.in-Some.key c.in-Ok.names c.in-Ok.ensures.whole) in (
      good_next c.self.inside.commits c.slice.result.now c.in-Some.key c.self.inside.work c.open.new.self c.self.inside.candidates c.remove.new.self steps c.remove.ensures.stays c.self.invariant.0,
      have_more c.args.store.now.index (g.S.Shelf.may_give c.args.store.now.shelf) old new c.self.invariant.1
          (opens_one c.args.store.now.index (g.S.Shelf.may_give c.args.store.now.shelf) old new c.in-Some.key steps.rest c.slice.result.now steps.first steps.marked steps.pending c.in-Ok.ensures.known reads) refl,
    )

pub returns-clause-good : goal.returns-clause-good
returns-clause-good g c = (invariant_of-self-2 g c).0

pub returns-clause-read : goal.returns-clause-read
returns-clause-read g c = (invariant_of-self-2 g c).1
