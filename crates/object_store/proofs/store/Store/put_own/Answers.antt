-- A put of bytes that are handed over changes what is held under its key alone, and is refused for the name first, then for what is stored.
use Rattle.std.proofs.Common.{sym, ◌∙◌, Some, length, refl}
use Rattle.std.specs.FinMap as map
use Rattle.object_store.proofs.RefusalLemmas.{given-stored, if-same, new-due, new-refused, not-held, put-failed, put-made, put-refused, same-held, there-held, absent-key}
use Rattle.object_store.proofs.StrayLemmas.{strays_put, strays_put_by, strays_same}
use Rattle.object_store.specs.Shelf.{put_known}
use Rattle.object_store.specs.Store.{put_refusal}
use Rattle.object_store.specs.declared.put.Put.{Put}
use Rattle.object_store.specs.declared.shelf.Slot.TheVariants.{Object}
use Rattle.object_store.proofs.store.Store.put_own.Goals as goal
use Rattle.object_store.proofs.store.Store.put_own.Goals.{in-Ok, in-Err}

pub returns-then-known-clause-ok : goal.returns-then-known-clause-ok
returns-then-known-clause-ok g c =
    if-same (g.S.Shelf.may_give c.put_own_stored.new.shelf) c.args.key c.args.bytes c.put_own_stored.result c.put_own_stored.ensures.value (λ gives.
    rw (← c.self.view_is, c.put_own_stored.ensures.stays)
    (same-held (g.S.Shelf.contents c.self.inside.shelf) c.self.inside.index c.args.key c.args.bytes (sym c.has-known.ensures.value ∙ c.if-known.true)
    (λ held is. g.met.S.Shelf.told c.put_own_stored.new.shelf held (Object c.args.key) (Some c.args.bytes) (c.put_own_stored.ensures.stays ∙ is) gives)))

pub returns-then-known-clause-refused : goal.returns-then-known-clause-refused
returns-then-known-clause-refused g c objects told =
    let known = rw (← c.self.view_is) at told in
    let there = sym c.has-known.ensures.value ∙ c.if-known.true in
    let tells = given-stored (g.S.Shelf.contents c.self.inside.shelf) c.self.inside.index objects c.args.key known there
    (g.S.Shelf.may_give c.put_own_stored.new.shelf)
    (λ held given is gives. g.met.S.Shelf.told c.put_own_stored.new.shelf held (Object c.args.key) given (c.put_own_stored.ensures.stays ∙ is) gives) in
    let held = there-held (g.S.Shelf.contents c.self.inside.shelf) c.self.inside.index objects c.args.key known c.self.invariant there in
    put-refused (g.S.Shelf.may_give c.put_own_stored.new.shelf) c.args.key c.args.bytes objects (sym c.in_default.ensures.value) held tells
    c.put_own_stored.result c.put_own_stored.ensures.value

pub returns-clause-ok : goal.returns-clause-ok
returns-clause-ok g c =
    elim c.match-put_own_new.branch [
      | in-Ok w ↦ rw (w.result-is, ← c.self.view_is)
          (put-made c.self.inside.index c.put_own_new.new.index c.args.key (length c.args.bytes) c.args.bytes (g.S.Shelf.contents c.self.inside.shelf)
          (g.S.Shelf.contents c.put_own_new.new.shelf) w.in-Ok.ensures.value.0 w.in-Ok.ensures.value.1)
      | in-Err w ↦ rw w.result-is tt
    ]

pub returns-clause-err : goal.returns-clause-err
returns-clause-err g c =
    elim c.match-put_own_new.branch [
      | in-Ok w ↦ rw w.result-is tt
      | in-Err w ↦ rw (w.result-is, ← c.self.view_is)
          (put-failed c.self.inside.index c.put_own_new.new.index (map.insert c.self.inside.index c.args.key (length c.args.bytes)) c.args.key c.args.bytes
          (g.S.Shelf.contents c.self.inside.shelf) (g.S.Shelf.contents c.put_own_new.new.shelf) w.in-Err.fault
          (absent-key c.self.inside.index c.args.key (sym c.has-known.ensures.value ∙ c.if-known.false)) w.in-Err.ensures.value)
    ]

pub returns-clause-refused : goal.returns-clause-refused
returns-clause-refused g c objects told =
    let known = rw (← c.self.view_is) at told in
    let absent = not-held (g.S.Shelf.contents c.self.inside.shelf) c.self.inside.index objects c.args.key known (sym c.has-known.ensures.value ∙ c.if-known.false) in
    elim c.match-put_own_new.branch [
      | in-Ok w ↦ rw w.result-is (new-due objects c.args.key c.args.bytes (sym c.in_default.ensures.value) absent)
      | in-Err w ↦ rw w.result-is
          (new-refused Put c.self.inside.index (map.insert c.self.inside.index c.args.key (length c.args.bytes)) c.self.inside.index c.put_own_new.new.index
          (g.S.Shelf.contents c.self.inside.shelf) (put_known (g.S.Shelf.contents c.self.inside.shelf) (Object c.args.key) c.args.bytes)
          (g.S.Shelf.contents c.put_own_new.new.shelf) w.in-Err.fault
          (put_refusal objects c.args.key c.args.bytes) w.in-Err.ensures.value)
    ]

pub returns-then-known-clause-lying : goal.returns-then-known-clause-lying
returns-then-known-clause-lying g c =
    rw (← c.self.view_is)
    (strays_same g.S.Shelf.contents (record { shelf = c.self.inside.shelf; index = c.self.inside.index }) (record { shelf = c.put_own_stored.new.shelf; index = c.self.inside.index })
    c.put_own_stored.result refl c.put_own_stored.ensures.stays)

pub returns-clause-lying : goal.returns-clause-lying
returns-clause-lying g c =
    elim c.match-put_own_new.branch [
      | in-Ok w ↦ rw (w.result-is, ← c.self.view_is)
          (strays_put g.S.Shelf.contents (record { shelf = c.self.inside.shelf; index = c.self.inside.index }) (record { shelf = c.put_own_new.new.shelf; index = c.put_own_new.new.index })
          c.args.key c.args.bytes w.in-Ok.ensures.value.0 w.in-Ok.ensures.value.1)
      | in-Err w ↦ rw (w.result-is, ← c.self.view_is)
          (strays_put_by g.S.Shelf.contents (record { shelf = c.self.inside.shelf; index = c.self.inside.index }) (record { shelf = c.put_own_new.new.shelf; index = c.put_own_new.new.index })
          c.args.key c.args.bytes w.in-Err.fault w.in-Err.ensures.value)
    ]
