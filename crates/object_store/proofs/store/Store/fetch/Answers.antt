-- What is found is judged as a get judges it.
use Rattle.std.proofs.Common.{◌≡◌, ap, sym, ◌∙◌, ℕ, List, Option, Some, is_some}
use Rattle.std.specs.Prelude.{IfErr, IfOk}
use Rattle.std.specs.FinMap as map
use Rattle.ids.specs.Outcome.{RefusesAs}
use Rattle.object_store.proofs.RefusalLemmas.{counts-judged, get-refused, given-stored, judged-as, not-held, stored-fault, there-held, whole-due}
use Rattle.object_store.specs.Store.{IsGetFault, IsOfStored, IsWhole, damage_of, is_free}
use Rattle.object_store.specs.declared.shelf.Slot.TheVariants.{Object}
use Rattle.object_store.proofs.store.Store.fetch.Goals as goal
use Rattle.object_store.proofs.store.Store.fetch.Goals.{in-Ok, in-Err}

pub returns-then-not-has-clause-found : goal.returns-then-not-has-clause-found
returns-then-not-has-clause-found g c objects told =
    sym (not-held (g.S.Shelf.contents c.self.inside.shelf) c.self.inside.index objects c.args.key (rw (← c.self.view_is) at told)
    (sym c.has.ensures.value ∙ c.if-not-has.true))

pub returns-then-not-has-clause-refused : goal.returns-then-not-has-clause-refused
returns-then-not-has-clause-refused g c objects told =
    ap (damage_of c.args.key) (not-held (g.S.Shelf.contents c.self.inside.shelf) c.self.inside.index objects c.args.key (rw (← c.self.view_is) at told)
    (sym c.has.ensures.value ∙ c.if-not-has.true))

pub returns-clause-found : goal.returns-clause-found
returns-clause-found g c objects told =
    let known = rw (← c.self.view_is) at told in
    let there = sym c.has.ensures.value ∙ c.if-not-has.false in
    let tells = given-stored (g.S.Shelf.contents c.self.inside.shelf) c.self.inside.index objects c.args.key known there
    (g.S.Shelf.may_give c.fetch_unjudged.new.shelf)
    (λ held given is gives. g.met.S.Shelf.told c.fetch_unjudged.new.shelf held (Object c.args.key) given (c.fetch_unjudged.ensures.stays ∙ is) gives) in
    elim c.match-fetch_unjudged.branch [
      | in-Ok w ↦ rw w.result-is
          (judged-as (λ r. IfOk r (λ found. found ≡ map.get objects c.args.key)) (g.S.Shelf.may_give c.fetch_unjudged.new.shelf) c.args.key w.in-Ok.bytes w.in-Ok.ensures.value
          (λ gives whole. tells (Some w.in-Ok.bytes) gives) (λ fault is. tt))
      | in-Err w ↦ rw w.result-is tt
    ]

pub returns-clause-told : goal.returns-clause-told
returns-clause-told g c =
    elim c.match-fetch_unjudged.branch [
      | in-Ok w ↦ rw (w.result-is, ← c.self.view_is)
          (judged-as (λ r. IfOk r (λ found. is_some found ≡ is_some (map.get c.self.inside.index c.args.key))) (g.S.Shelf.may_give c.fetch_unjudged.new.shelf) c.args.key w.in-Ok.bytes w.in-Ok.ensures.value
          (λ gives whole. sym (sym c.has.ensures.value ∙ c.if-not-has.false)) (λ fault is. tt))
      | in-Err w ↦ rw w.result-is tt
    ]

pub returns-clause-value : goal.returns-clause-value
returns-clause-value g c =
    elim c.match-fetch_unjudged.branch [
      | in-Ok w ↦ rw w.result-is
          (judged-as (λ r. IfOk r (IsWhole (g.S.Shelf.may_give c.fetch_unjudged.new.shelf) c.args.key)) (g.S.Shelf.may_give c.fetch_unjudged.new.shelf) c.args.key w.in-Ok.bytes w.in-Ok.ensures.value
          (λ gives whole. (gives, whole)) (λ fault is. tt))
      | in-Err w ↦ rw w.result-is tt
    ]

pub returns-clause-damaged : goal.returns-clause-damaged
returns-clause-damaged g c =
    elim c.match-fetch_unjudged.branch [
      | in-Ok w ↦ rw w.result-is
          (judged-as (λ r. IfErr r (IsGetFault (g.S.Shelf.may_give c.fetch_unjudged.new.shelf) c.args.key)) (g.S.Shelf.may_give c.fetch_unjudged.new.shelf) c.args.key w.in-Ok.bytes w.in-Ok.ensures.value
          (λ gives whole. tt) (λ fault is. is))
      | in-Err w ↦ rw w.result-is w.in-Err.ensures.value
    ]

pub returns-clause-stored : goal.returns-clause-stored
returns-clause-stored g c =
    let there = sym c.has.ensures.value ∙ c.if-not-has.false in
    elim c.match-fetch_unjudged.branch [
      | in-Ok w ↦ rw (w.result-is, ← c.self.view_is)
          (judged-as (λ r. IfErr r (IsOfStored (map.get c.self.inside.index c.args.key) c.args.key)) (g.S.Shelf.may_give c.fetch_unjudged.new.shelf) c.args.key w.in-Ok.bytes w.in-Ok.ensures.value
          (λ gives whole. tt) (λ fault is. stored-fault (g.S.Shelf.may_give c.fetch_unjudged.new.shelf) c.args.key (map.get c.self.inside.index c.args.key) there fault is))
      | in-Err w ↦ rw (w.result-is, ← c.self.view_is)
          (stored-fault (g.S.Shelf.may_give c.fetch_unjudged.new.shelf) c.args.key (map.get c.self.inside.index c.args.key) there w.in-Err.why w.in-Err.ensures.value)
    ]

pub returns-clause-refused : goal.returns-clause-refused
returns-clause-refused g c objects told =
    let known = rw (← c.self.view_is) at told in
    let there = sym c.has.ensures.value ∙ c.if-not-has.false in
    let tells = given-stored (g.S.Shelf.contents c.self.inside.shelf) c.self.inside.index objects c.args.key known there
    (g.S.Shelf.may_give c.fetch_unjudged.new.shelf)
    (λ held given is gives. g.met.S.Shelf.told c.fetch_unjudged.new.shelf held (Object c.args.key) given (c.fetch_unjudged.ensures.stays ∙ is) gives) in
    let held = there-held (g.S.Shelf.contents c.self.inside.shelf) c.self.inside.index objects c.args.key known c.self.invariant there in
    elim c.match-fetch_unjudged.branch [
      | in-Ok w ↦ rw w.result-is
          (judged-as (λ r. RefusesAs is_free r (damage_of c.args.key (map.get objects c.args.key))) (g.S.Shelf.may_give c.fetch_unjudged.new.shelf) c.args.key w.in-Ok.bytes w.in-Ok.ensures.value
          (λ gives whole. whole-due c.args.key w.in-Ok.bytes (map.get objects c.args.key) (tells (Some w.in-Ok.bytes) gives) whole)
          (λ fault is. get-refused (Option (List ℕ)) (g.S.Shelf.may_give c.fetch_unjudged.new.shelf) c.args.key (map.get objects c.args.key) held tells fault is))
      | in-Err w ↦ rw w.result-is (get-refused (Option (List ℕ)) (g.S.Shelf.may_give c.fetch_unjudged.new.shelf) c.args.key (map.get objects c.args.key) held tells w.in-Err.why w.in-Err.ensures.value)
    ]

pub returns-clause-faults : goal.returns-clause-faults
returns-clause-faults g c =
    elim c.match-fetch_unjudged.branch [
      | in-Ok w ↦ rw (w.result-is, ← c.self.view_is)
          (counts-judged (g.S.Shelf.faults c.self.inside.shelf) (g.S.Shelf.faults c.fetch_unjudged.new.shelf) c.args.key w.in-Ok.bytes w.in-Ok.ensures.faults)
      | in-Err w ↦ rw (w.result-is, ← c.self.view_is) w.in-Err.ensures.faults
    ]
