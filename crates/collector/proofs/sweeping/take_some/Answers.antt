-- One candidate more leaves; none is left, the shelf fails, or as many left as were asked for.
use Rattle.std.proofs.Common.{Err, Ok, Some, ap, arith, inl, length, refl, subst, ◌∙◌, ℕ}
use Rattle.std.proofs.lemmas.List.{length_push}
use Rattle.std.specs.Prelude.{⊤}
use Rattle.object_store.specs.Store.{CountsShelf}
use Rattle.collector.proofs.SweepLemmas.{few_err, gives_on, least_err, least_none, least_then, none_len, still_known, strays_after, told_err, took_err, took_nothing, took_then}
use Rattle.collector.proofs.sweeping.take_some.Goals as goal

pub loop-candidates-init : goal.loop-candidates-init
loop-candidates-init g c = record {
  took = took_nothing g.S.Shelf.contents c.args.store.now c.args.candidates.now c.args.removed.now.items c.requires.ready;
  least = least_none c.args.candidates.now c.args.removed.now.items c.requires.ready;
  few = omega (arith, ap length c.requires.ready);
  unwritten = refl;
  gives = λ slot given may. inl may;
  texts = refl;
  strays = λ key stray. stray;
  count = refl;
}

pub take-requires : goal.take-requires
take-requires g c = record {
  stored =
      still_known g.S.Shelf.contents c.args.store.now c.loop-candidates.store c.args.candidates.now c.loop-candidates.candidates c.loop-candidates.removed.items c.requires.stored
      c.loop-candidates.invariant.took c.in-Some.key c.in-Some.ensures.value.there;
}

pub loop-candidates-smaller : goal.loop-candidates-smaller
loop-candidates-smaller g c =
    omega (arith, c.loop-candidates-test.true, ap length c.in-Ok.ensures.value.removed, length_push c.loop-candidates.removed.items c.in-Some.key)

pub loop-candidates-preserved : goal.loop-candidates-preserved
loop-candidates-preserved g c =
    let inv = c.loop-candidates.invariant in
    let there = c.in-Some.ensures.value.there in
    let known = still_known g.S.Shelf.contents c.args.store.now c.loop-candidates.store c.args.candidates.now c.loop-candidates.candidates c.loop-candidates.removed.items c.requires.stored inv.took c.in-Some.key there in
    record {
      took =
          took_then g.S.Shelf.contents c.args.store.now c.loop-candidates.store c.take.new.store c.args.candidates.now c.loop-candidates.candidates c.take.new.candidates
          c.loop-candidates.removed.items c.take.new.removed.items c.in-Some.key inv.took c.in-Ok.ensures.value there known;
      least =
          least_then c.loop-candidates.candidates c.take.new.candidates c.loop-candidates.removed.items c.take.new.removed.items c.in-Some.key c.in-Ok.ensures.value.candidates c.in-Ok.ensures.value.removed
          c.in-Some.ensures.value inv.least;
      few = omega (arith, c.loop-candidates-test.true, ap length c.in-Ok.ensures.value.removed, length_push c.loop-candidates.removed.items c.in-Some.key);
      unwritten = c.take.ensures.unwritten ∙ inv.unwritten;
      gives =
          gives_on g.S.Shelf.contents c.loop-candidates.store c.take.new.store c.loop-candidates.candidates c.take.new.candidates
          (g.S.Shelf.may_give c.args.store.now.shelf) (g.S.Shelf.may_give c.loop-candidates.store.shelf) (g.S.Shelf.may_give c.take.new.store.shelf)
          c.loop-candidates.removed.items c.take.new.removed.items c.in-Some.key (Ok tt) c.in-Ok.ensures.value inv.gives c.take.ensures.gives;
      texts = c.take.ensures.texts ∙ inv.texts;
      strays = λ key stray. inv.strays key (c.in-Ok.ensures.lying key stray);
      count = c.in-Ok.ensures.faults ∙ inv.count;
    }

-- none is left
pub returns-in-None-clause-size : goal.returns-in-None-clause-size
returns-in-None-clause-size g c =
    let inv = c.loop-candidates.invariant in
    let none = none_len c.loop-candidates.candidates (λ key. c.in-None.ensures.value key tt) in
    omega (arith, none, inv.took.size, inv.few)

pub returns-in-None-clause-value : goal.returns-in-None-clause-value
returns-in-None-clause-value g c = c.loop-candidates.invariant.took

-- one was refused
pub returns-in-Err-clause-value : goal.returns-in-Err-clause-value
returns-in-Err-clause-value g c =
    let inv = c.loop-candidates.invariant in
    let there = c.in-Some.ensures.value.there in
    let known = still_known g.S.Shelf.contents c.args.store.now c.loop-candidates.store c.args.candidates.now c.loop-candidates.candidates c.loop-candidates.removed.items c.requires.stored inv.took c.in-Some.key there in
    took_err g.S.Shelf.contents c.args.store.now c.loop-candidates.store c.take.new.store c.args.candidates.now c.loop-candidates.candidates c.take.new.candidates
    c.loop-candidates.removed.items c.take.new.removed.items c.in-Some.key c.in-Err.fault inv.took c.in-Err.ensures.value there known

pub returns-in-Err-clause-few : goal.returns-in-Err-clause-few
returns-in-Err-clause-few g c =
    few_err g.S.Shelf.contents c.loop-candidates.store c.take.new.store c.loop-candidates.candidates c.take.new.candidates c.loop-candidates.removed.items c.take.new.removed.items
    c.in-Some.key c.in-Err.fault c.args.at_most c.in-Err.ensures.value (omega (arith, c.loop-candidates-test.true))

pub returns-in-Err-clause-failed : goal.returns-in-Err-clause-failed
returns-in-Err-clause-failed g c =
    told_err g.S.Shelf.contents c.loop-candidates.store c.take.new.store c.loop-candidates.candidates c.take.new.candidates c.loop-candidates.removed.items c.take.new.removed.items
    c.in-Some.key c.in-Err.fault c.in-Err.ensures.value

pub returns-in-Err-clause-gives : goal.returns-in-Err-clause-gives
returns-in-Err-clause-gives g c =
    gives_on g.S.Shelf.contents c.loop-candidates.store c.take.new.store c.loop-candidates.candidates c.take.new.candidates
    (g.S.Shelf.may_give c.args.store.now.shelf) (g.S.Shelf.may_give c.loop-candidates.store.shelf) (g.S.Shelf.may_give c.take.new.store.shelf)
    c.loop-candidates.removed.items c.take.new.removed.items c.in-Some.key (Err c.in-Err.fault) c.in-Err.ensures.value c.loop-candidates.invariant.gives c.take.ensures.gives

pub returns-in-Err-clause-order : goal.returns-in-Err-clause-order
returns-in-Err-clause-order g c =
    least_err g.S.Shelf.contents c.loop-candidates.store c.take.new.store c.loop-candidates.candidates c.take.new.candidates c.loop-candidates.removed.items c.take.new.removed.items
    c.in-Some.key c.in-Err.fault c.in-Err.ensures.value c.in-Some.ensures.value c.loop-candidates.invariant.least

pub returns-in-Err-clause-lying : goal.returns-in-Err-clause-lying
returns-in-Err-clause-lying g c =
    strays_after g.S.Shelf.contents c.args.store.now c.loop-candidates.store c.take.new.store c.take.new.removed.items (Some c.in-Err.fault) c.loop-candidates.invariant.strays
    c.in-Err.ensures.lying

pub returns-in-Err-clause-faults : goal.returns-in-Err-clause-faults
returns-in-Err-clause-faults g c =
    subst (λ (before : ℕ). CountsShelf {T = ⊤} before (g.S.Shelf.faults c.take.new.store.shelf) (Err c.in-Err.fault)) c.loop-candidates.invariant.count c.in-Err.ensures.faults

-- as many left as were asked for
pub returns-clause-value : goal.returns-clause-value
returns-clause-value g c = c.loop-candidates.invariant.took

pub returns-clause-size : goal.returns-clause-size
returns-clause-size g c =
    let inv = c.loop-candidates.invariant in
    omega (arith, c.loop-candidates-test.false, inv.took.size, inv.few)
