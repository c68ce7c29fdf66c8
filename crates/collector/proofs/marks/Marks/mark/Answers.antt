-- One more is marked each time; a fault of the store is handed on, and of another one the first of the commits is told.
use Rattle.std.proofs.Common.{◌≡◌, ℕ, Err, Ok, arith, refl, subst, sym, ◌∙◌, rules}
use Rattle.tree_walk.proofs.ReadsLemmas.{reads_then, told_after}
use Rattle.collector.specs.Marking.{MarksMany, MarksUpTo, first_fault}
use Rattle.collector.specs.Naming.{names_at}
use Rattle.collector.specs.Opened.{OpensFirst}
use Rattle.collector.proofs.MarkingLemmas.{as_commits, has_marked_none, has_marked_then, needed_damage, no_value, none_fails, none_marked, one_more, reads_fails, reads_uncounted, same_commits, size_more, some_fault, store_due, tells_all, tells_done, up_to}
use Rattle.collector.proofs.OpenedLemmas.{first_done, first_then, opens_none, opens_then}
use Rattle.collector.proofs.WorklistLemmas.{nothing_waits, on_error, some_waiting}
use Rattle.collector.proofs.marks.Marks.mark.Goals as goal

pub loop-count-init : goal.loop-count-init
loop-count-init g c = record {
  reads = search rules;
  marks = λ objects told. none_marked objects c.args.self.now;
  left = has_marked_none c.args.self.now;
  size = omega arith;
  first = λ none. refl;
  opened = opens_none c.args.store.now.index (g.S.Shelf.may_give c.args.store.now.shelf) c.args.self.now;
  began = λ one. let no : ⊥ = omega (arith, one) in absurd no;
  good = λ one. let no : ⊥ = omega (arith, one) in absurd no;
  read = λ one. let no : ⊥ = omega (arith, one) in absurd no;
}

pub mark_next-requires : goal.mark_next-requires
mark_next-requires g c = record { some = some_waiting c.loop-count.self.pending (sym c.is_done.ensures.value ∙ c.if-is_done.false) }

pub loop-count-preserved : goal.loop-count-preserved
loop-count-preserved g c =
    let inv = c.loop-count.invariant in
    record {
      reads = reads_then tt (Ok tt) inv.reads c.in-Ok.ensures.stays;
      marks = λ objects told.
          one_more objects c.args.self.now c.loop-count.self c.mark_next.new.self c.loop-count.count (inv.marks objects told)
          (c.in-Ok.ensures.ok objects (told_after inv.reads told));
      left = has_marked_then c.args.self.now c.loop-count.self c.mark_next.new.self inv.left c.in-Ok.ensures.left;
      size = size_more c.args.self.now c.loop-count.self c.mark_next.new.self c.loop-count.count inv.size c.in-Ok.ensures.size;
      first = λ none. let no : ⊥ = omega (arith, none) in absurd no;
      opened =
          opens_then c.args.store.now.index (g.S.Shelf.may_give c.args.store.now.shelf) c.loop-count.store.index (g.S.Shelf.may_give c.loop-count.store.shelf) c.args.self.now c.loop-count.self
          c.mark_next.new.self inv.reads.kept.index inv.reads.shelf.gives inv.opened c.in-Ok.ensures.opened;
      began = λ one.
          first_then c.args.store.now.index (g.S.Shelf.may_give c.args.store.now.shelf) c.loop-count.store.index (g.S.Shelf.may_give c.loop-count.store.shelf) c.args.self.now c.loop-count.self
          c.mark_next.new.self c.loop-count.count inv.reads.kept.index inv.reads.shelf.gives inv.first inv.began c.in-Ok.ensures.first c.in-Ok.ensures.opened;
      good = λ one. c.in-Ok.ensures.good;
      read = λ one. c.in-Ok.ensures.read;
    }

-- nothing waits any more
pub returns-then-is_done-clause-value : goal.returns-then-is_done-clause-value
returns-then-is_done-clause-value g c = λ objects told. c.loop-count.invariant.marks objects told

pub returns-then-is_done-clause-told : goal.returns-then-is_done-clause-told
returns-then-is_done-clause-told g c =
    let inv = c.loop-count.invariant in
    tells_done c.args.at_most c.args.self.now c.loop-count.self c.loop-count.count inv.size (omega arith) inv.first
    (nothing_waits c.loop-count.self.pending (sym c.is_done.ensures.value ∙ c.if-is_done.true))

pub returns-then-is_done-clause-left : goal.returns-then-is_done-clause-left
returns-then-is_done-clause-left g c = c.loop-count.invariant.left

pub returns-then-is_done-clause-good : goal.returns-then-is_done-clause-good
returns-then-is_done-clause-good g c = c.is_done.ensures.good

pub returns-then-is_done-clause-opened : goal.returns-then-is_done-clause-opened
returns-then-is_done-clause-opened g c = c.loop-count.invariant.opened

pub returns-then-is_done-clause-first : goal.returns-then-is_done-clause-first
returns-then-is_done-clause-first g c =
    let inv = c.loop-count.invariant in
    first_done c.args.store.now.index (g.S.Shelf.may_give c.args.store.now.shelf) c.args.self.now c.loop-count.self c.loop-count.count inv.first
    (nothing_waits c.loop-count.self.pending (sym c.is_done.ensures.value ∙ c.if-is_done.true)) inv.began

pub returns-then-is_done-clause-read : goal.returns-then-is_done-clause-read
returns-then-is_done-clause-read g c = c.is_done.ensures.read

-- a fault of the store
pub returns-then-is_of_store-clause-err : goal.returns-then-is_of_store-clause-err
returns-then-is_of_store-clause-err g c = λ objects told.
    let inv = c.loop-count.invariant in
    up_to objects c.args.self.now c.loop-count.self c.mark_next.new.self c.loop-count.count (inv.marks objects told) (c.in-Err.ensures.err objects (told_after inv.reads told))

pub returns-then-is_of_store-clause-left : goal.returns-then-is_of_store-clause-left
returns-then-is_of_store-clause-left g c = has_marked_then c.args.self.now c.loop-count.self c.mark_next.new.self c.loop-count.invariant.left c.in-Err.ensures.left

pub returns-then-is_of_store-clause-good : goal.returns-then-is_of_store-clause-good
returns-then-is_of_store-clause-good g c = c.in-Err.ensures.good

pub returns-then-is_of_store-clause-opened : goal.returns-then-is_of_store-clause-opened
returns-then-is_of_store-clause-opened g c =
    let inv = c.loop-count.invariant in
    opens_then c.args.store.now.index (g.S.Shelf.may_give c.args.store.now.shelf) c.loop-count.store.index (g.S.Shelf.may_give c.loop-count.store.shelf) c.args.self.now c.loop-count.self
    c.mark_next.new.self inv.reads.kept.index inv.reads.shelf.gives inv.opened c.in-Err.ensures.opened

pub returns-then-is_of_store-clause-read : goal.returns-then-is_of_store-clause-read
returns-then-is_of_store-clause-read g c = c.in-Err.ensures.read

pub returns-then-is_of_store-clause-cause : goal.returns-then-is_of_store-clause-cause
returns-then-is_of_store-clause-cause g c = λ objects told exact.
    let fails = c.in-Err.ensures.cause objects (told_after c.loop-count.invariant.reads told) in
    store_due objects (names_at objects fails.key) (first_fault objects c.args.self.now.commits) c.in-Err.fault
    (sym c.is_of_store.ensures.value ∙ c.if-is_of_store.true) fails.due

pub returns-then-is_of_store-clause-damaged : goal.returns-then-is_of_store-clause-damaged
returns-then-is_of_store-clause-damaged g c = λ objects told exact complete.
    let inv = c.loop-count.invariant in
    needed_damage objects c.args.self.now c.loop-count.self c.loop-count.count c.in-Err.fault (inv.marks objects told) exact complete
    (c.in-Err.ensures.cause objects (told_after inv.reads told))

pub returns-then-is_of_store-clause-stays : goal.returns-then-is_of_store-clause-stays
returns-then-is_of_store-clause-stays g c =
    reads_then tt (Err c.in-Err.fault) c.loop-count.invariant.reads (reads_fails c.in-Err.fault c.in-Err.ensures.stays)

-- another fault
pub tree_fault-requires : goal.tree_fault-requires
tree_fault-requires g c = record {
  ready = sym c.is_of_store.ensures.value ∙ c.if-is_of_store.false;
  cause = c.in-Err.ensures.stays.cause;
}

pub returns-in-Err-clause-value : goal.returns-in-Err-clause-value
returns-in-Err-clause-value g c = λ objects told.
    no_value (MarksMany objects c.args.self.now c.mark_next.new.self) c.tree_fault.result c.tree_fault.ensures.wrong

pub returns-in-Err-clause-err : goal.returns-in-Err-clause-err
returns-in-Err-clause-err g c = λ objects told.
    let inv = c.loop-count.invariant in
    on_error (MarksUpTo objects c.args.self.now c.mark_next.new.self) c.tree_fault.result
    (up_to objects c.args.self.now c.loop-count.self c.mark_next.new.self c.loop-count.count (inv.marks objects told) (c.in-Err.ensures.err objects (told_after inv.reads told)))

pub returns-in-Err-clause-told : goal.returns-in-Err-clause-told
returns-in-Err-clause-told g c = no_value _ c.tree_fault.result c.tree_fault.ensures.wrong

pub returns-in-Err-clause-first : goal.returns-in-Err-clause-first
returns-in-Err-clause-first g c =
    no_value (λ count. OpensFirst c.args.store.now.index (g.S.Shelf.may_give c.args.store.now.shelf) c.args.self.now c.mark_next.new.self) c.tree_fault.result c.tree_fault.ensures.wrong

pub returns-in-Err-clause-left : goal.returns-in-Err-clause-left
returns-in-Err-clause-left g c = has_marked_then c.args.self.now c.loop-count.self c.mark_next.new.self c.loop-count.invariant.left c.in-Err.ensures.left

pub returns-in-Err-clause-good : goal.returns-in-Err-clause-good
returns-in-Err-clause-good g c = c.in-Err.ensures.good

pub returns-in-Err-clause-opened : goal.returns-in-Err-clause-opened
returns-in-Err-clause-opened g c =
    let inv = c.loop-count.invariant in
    opens_then c.args.store.now.index (g.S.Shelf.may_give c.args.store.now.shelf) c.loop-count.store.index (g.S.Shelf.may_give c.loop-count.store.shelf) c.args.self.now c.loop-count.self
    c.mark_next.new.self inv.reads.kept.index inv.reads.shelf.gives inv.opened c.in-Err.ensures.opened

pub returns-in-Err-clause-read : goal.returns-in-Err-clause-read
returns-in-Err-clause-read g c = c.in-Err.ensures.read

pub returns-in-Err-clause-cause : goal.returns-in-Err-clause-cause
returns-in-Err-clause-cause g c = λ objects told exact.
    let inv = c.loop-count.invariant in
    let before = told_after inv.reads told in
    let marks = inv.marks objects told in
    let waits = c.in-Err.ensures.err objects before in
    as_commits objects c.mark_next.new.self.commits c.args.self.now.commits c.tree_fault.result
    (same_commits objects c.args.self.now c.loop-count.self c.mark_next.new.self c.loop-count.count marks waits)
    (c.tree_fault.ensures.value objects (told_after c.in-Err.ensures.stays before)
    (some_fault objects c.args.self.now c.loop-count.self c.mark_next.new.self c.loop-count.count c.in-Err.fault marks waits exact (c.in-Err.ensures.cause objects before)
    (sym c.is_of_store.ensures.value ∙ c.if-is_of_store.false)))

pub returns-in-Err-clause-damaged : goal.returns-in-Err-clause-damaged
returns-in-Err-clause-damaged g c = λ objects told exact complete.
    let inv = c.loop-count.invariant in
    absurd
    (none_fails objects c.args.self.now c.loop-count.self c.loop-count.count c.in-Err.fault (inv.marks objects told) exact complete
    (c.in-Err.ensures.cause objects (told_after inv.reads told)) (sym c.is_of_store.ensures.value ∙ c.if-is_of_store.false))

pub returns-in-Err-clause-stays : goal.returns-in-Err-clause-stays
returns-in-Err-clause-stays g c =
    reads_then tt c.tree_fault.result
    (reads_then tt (Ok tt) c.loop-count.invariant.reads (reads_uncounted c.in-Err.fault (sym c.is_of_store.ensures.value ∙ c.if-is_of_store.false) c.in-Err.ensures.stays))
    c.tree_fault.ensures.stays

-- as many as were asked for
pub returns-clause-value : goal.returns-clause-value
returns-clause-value g c = λ objects told.
    let all : c.loop-count.count ≡ c.args.at_most = omega arith in
    subst (λ (count : ℕ). MarksMany objects c.args.self.now c.loop-count.self count) all (c.loop-count.invariant.marks objects told)

pub returns-clause-told : goal.returns-clause-told
returns-clause-told g c =
    let size = c.loop-count.invariant.size in
    tells_all c.args.at_most c.args.self.now c.loop-count.self c.requires.some (omega (arith, size))

pub returns-clause-left : goal.returns-clause-left
returns-clause-left g c = c.loop-count.invariant.left

pub returns-clause-good : goal.returns-clause-good
returns-clause-good g c = let some = c.requires.some in c.loop-count.invariant.good (omega (arith, some))

pub returns-clause-opened : goal.returns-clause-opened
returns-clause-opened g c = c.loop-count.invariant.opened

pub returns-clause-read : goal.returns-clause-read
returns-clause-read g c = let some = c.requires.some in c.loop-count.invariant.read (omega (arith, some))

pub returns-clause-first : goal.returns-clause-first
returns-clause-first g c = let some = c.requires.some in c.loop-count.invariant.began (omega (arith, some))
