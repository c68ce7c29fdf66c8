-- What is found is what is held, and what is refused is damaged, where the shelf tells its contents.
use Rattle.std.proofs.Common.{ap, sym, ◌∙◌, ℕ, List, Option, Some}
use Rattle.std.specs.FinMap as map
use Rattle.object_store.proofs.RefusalLemmas.{get-refused, given-stored, not-held, there-held, whole-due}
use Rattle.object_store.specs.Store.{damage_of}
use Rattle.object_store.specs.declared.shelf.Slot.TheVariants.{Object}
use Rattle.object_store.proofs.store.Store.get.Goals as goal
use Rattle.object_store.proofs.store.Store.get.Goals.{in-Ok, in-Err}

pub returns-then-not-has-clause-found : goal.returns-then-not-has-clause-found
returns-then-not-has-clause-found g c objects told =
    sym (not-held (g.S.Shelf.contents c.self.inside.shelf) c.self.inside.index objects c.args.key (rw (← c.self.view_is) at told)
    (sym c.has.ensures.value ∙ c.if-not-has.true))

pub returns-then-not-has-clause-refused : goal.returns-then-not-has-clause-refused
returns-then-not-has-clause-refused g c objects told =
    ap (damage_of c.args.key) (not-held (g.S.Shelf.contents c.self.inside.shelf) c.self.inside.index objects c.args.key (rw (← c.self.view_is) at told)
    (sym c.has.ensures.value ∙ c.if-not-has.true))

pub returns-clause-found : goal.returns-clause-found
returns-clause-found g c objects told =
    let known = rw (← c.self.view_is) at told in
    let there = sym c.has.ensures.value ∙ c.if-not-has.false in
    let tells = given-stored (g.S.Shelf.contents c.self.inside.shelf) c.self.inside.index objects c.args.key known there
    (g.S.Shelf.may_give c.fetch_whole.new.shelf)
    (λ held given is gives. g.met.S.Shelf.told c.fetch_whole.new.shelf held (Object c.args.key) given (c.fetch_whole.ensures.stays ∙ is) gives) in
    elim c.match-fetch_whole.branch [
      | in-Ok w ↦ rw w.result-is (tells (Some w.in-Ok.bytes) w.in-Ok.ensures.value.0)
      | in-Err w ↦ rw w.result-is tt
    ]

pub returns-clause-refused : goal.returns-clause-refused
returns-clause-refused g c objects told =
    let known = rw (← c.self.view_is) at told in
    let there = sym c.has.ensures.value ∙ c.if-not-has.false in
    let tells = given-stored (g.S.Shelf.contents c.self.inside.shelf) c.self.inside.index objects c.args.key known there
    (g.S.Shelf.may_give c.fetch_whole.new.shelf)
    (λ held given is gives. g.met.S.Shelf.told c.fetch_whole.new.shelf held (Object c.args.key) given (c.fetch_whole.ensures.stays ∙ is) gives) in
    let held = there-held (g.S.Shelf.contents c.self.inside.shelf) c.self.inside.index objects c.args.key known c.self.invariant there in
    elim c.match-fetch_whole.branch [
      | in-Ok w ↦ rw w.result-is (whole-due c.args.key w.in-Ok.bytes (map.get objects c.args.key) (tells (Some w.in-Ok.bytes) w.in-Ok.ensures.value.0) w.in-Ok.ensures.value.1)
      | in-Err w ↦ rw w.result-is (get-refused (Option (List ℕ)) (g.S.Shelf.may_give c.fetch_whole.new.shelf) c.args.key (map.get objects c.args.key) held tells w.in-Err.cause w.in-Err.ensures.value)
    ]
