-- What the store takes or refuses is due, or a fault.
use Rattle.std.proofs.Common.{◌∙◌, inr, is_some, refl, sym, subst, Ok, Err}
use Rattle.std.specs.FinMap as map
use Rattle.library_state.specs.declared.refusal.Refusal.{Refusal}
use Rattle.library_state.specs.declared.reply.Reply.TheVariants as reply
use Rattle.object_store.specs.StoreView.{Keeps, PutChanges, objects_of, with_object}
use Rattle.object_store.specs.declared.put.Put.{Put}
use Rattle.object_store.specs.declared.put.Put.TheVariants.{New, Same}
use Rattle.depot.proofs.WritingLemmas.{stored_as_put}
use Rattle.depot.specs.ObjectCalls.{DoneSo, IsToldDamage, store_due}
use Rattle.depot.proofs.ObjectCallLemmas.{new_done, new_unknown, put_damage, put_refused, same_done, same_stored, unknown_absent}
use Rattle.std.proofs.Common.{ap}
use Rattle.depot.specs.ObjectCalls.{is_of_store}
use Rattle.depot.proofs.RefusalsLemmas.{counted_same}
use Rattle.object_store.specs.Shelf.{GivesNoMore}
use Rattle.object_store.specs.StoreView.{StoreView}
use Rattle.depot.proofs.GivingLemmas.{object_by}
use Rattle.depot.proofs.HeldLemmas.{holds_put, ok_same}
use Rattle.depot.proofs.ToldLemmas.{ok_not_err}
use Rattle.depot.proofs.own_call.store_block.Goals as goal

pub returns-in-Err-clause-value : goal.returns-in-Err-clause-value
returns-in-Err-clause-value g c = λ s told.
    subst (λ (why : Refusal). DoneSo s.objects (store_due s c.args.key.now c.args.bytes) (reply.Refused why) (objects_of g.S.Shelf.contents c.put_own.new.self)) (sym c.store_refusal.ensures.value)
    (put_refused s c.args.key.now c.args.bytes c.in-Err.fault (objects_of g.S.Shelf.contents c.put_own.new.self) (c.in-Err.ensures.refused s.objects told) (c.in-Err.ensures.err ∙ told))

pub returns-in-Err-clause-damaged : goal.returns-in-Err-clause-damaged
returns-in-Err-clause-damaged g c = λ objects told.
    subst (λ (why : Refusal). IsToldDamage objects (reply.Refused why)) (sym c.store_refusal.ensures.value)
    (put_damage objects c.args.key.now c.args.bytes c.in-Err.fault (c.in-Err.ensures.refused objects told))

pub returns-in-Err-clause-lying : goal.returns-in-Err-clause-lying
returns-in-Err-clause-lying g c free = c.in-Err.ensures.lying (counted_same c.in-Err.fault ∙ ap is_of_store (sym c.store_refusal.ensures.value) ∙ free)

pub returns-in-Ok-New-clause-value : goal.returns-in-Ok-New-clause-value
returns-in-Ok-New-clause-value g c = λ s told.
    new_done s c.args.key.now c.args.bytes (c.in-Ok-New.ensures.refused s.objects told) (objects_of g.S.Shelf.contents c.put_own.new.self)
    (unknown_absent g.S.Shelf.contents c.args.store.now s.objects c.args.key.now told (new_unknown (is_some (map.get c.args.store.now.index c.args.key.now)) (rw c.in-Ok-New.field-0-is at c.in-Ok-New.ensures.told)))
    (c.in-Ok-New.ensures.ok ∙ ap (λ known. with_object known c.args.key.now c.args.bytes) told)

pub returns-in-Ok-Same-clause-value : goal.returns-in-Ok-Same-clause-value
returns-in-Ok-Same-clause-value g c = λ s told.
    let keeps : Keeps g.S.Shelf.contents c.args.store.now c.put_own.new.self
    = subst (λ (put : Put). PutChanges g.S.Shelf.contents c.args.store.now c.put_own.new.self c.args.key.now c.args.bytes (Ok put)) c.in-Ok-Same.field-0-is c.in-Ok-Same.ensures.changes in
    same_done s c.args.key.now c.args.bytes (c.in-Ok-Same.ensures.refused s.objects told) (objects_of g.S.Shelf.contents c.put_own.new.self)
    (same_stored s.objects c.args.key.now c.args.bytes
    (sym (c.in-Ok-Same.ensures.ok ∙ ap (λ known. with_object known c.args.key.now c.args.bytes) told) ∙ keeps.objects ∙ told))
    (keeps.objects ∙ told)

pub returns-in-Ok-New-clause-stored : goal.returns-in-Ok-New-clause-stored
returns-in-Ok-New-clause-stored g c =
    inr (c.in-Ok-New.ensures.ok ∙ stored_as_put (objects_of g.S.Shelf.contents c.args.store.now) c.args.key.now c.args.bytes c.in-Ok-New.ensures.refused)

pub returns-in-Ok-Same-clause-stored : goal.returns-in-Ok-Same-clause-stored
returns-in-Ok-Same-clause-stored g c =
    inr (c.in-Ok-Same.ensures.ok ∙ stored_as_put (objects_of g.S.Shelf.contents c.args.store.now) c.args.key.now c.args.bytes c.in-Ok-Same.ensures.refused)

pub returns-in-Ok-New-clause-gives : goal.returns-in-Ok-New-clause-gives
returns-in-Ok-New-clause-gives g c =
    object_by c.args.key.now c.args.bytes
    (λ other. subst (λ (now : StoreView g.row.S.Denot). GivesNoMore (g.S.Shelf.may_give c.args.store.now.shelf) (g.S.Shelf.may_give now.shelf)) (sym (c.in-Ok-New.ensures.untouched other)) (λ slot given is. is))
    c.in-Ok-New.ensures.shelf.gives

pub returns-in-Ok-Same-clause-gives : goal.returns-in-Ok-Same-clause-gives
returns-in-Ok-Same-clause-gives g c =
    object_by c.args.key.now c.args.bytes
    (λ other. subst (λ (now : StoreView g.row.S.Denot). GivesNoMore (g.S.Shelf.may_give c.args.store.now.shelf) (g.S.Shelf.may_give now.shelf)) (sym (c.in-Ok-Same.ensures.untouched other)) (λ slot given is. is))
    c.in-Ok-Same.ensures.shelf.gives

pub returns-in-Err-clause-gives : goal.returns-in-Err-clause-gives
returns-in-Err-clause-gives g c =
    object_by c.args.key.now c.args.bytes
    (λ other. subst (λ (now : StoreView g.row.S.Denot). GivesNoMore (g.S.Shelf.may_give c.args.store.now.shelf) (g.S.Shelf.may_give now.shelf)) (sym (c.in-Err.ensures.untouched other)) (λ slot given is. is))
    c.in-Err.ensures.shelf.gives

pub returns-in-Ok-New-clause-held : goal.returns-in-Ok-New-clause-held
returns-in-Ok-New-clause-held g c =
    holds_put g.S.Shelf.contents c.args.store.now c.put_own.new.self c.args.key.now c.args.bytes (Ok New)
    (subst (λ (put : Put). PutChanges g.S.Shelf.contents c.args.store.now c.put_own.new.self c.args.key.now c.args.bytes (Ok put)) c.in-Ok-New.field-0-is c.in-Ok-New.ensures.changes)
    (λ put same. sym (ok_same (Ok New) New put refl same) ∙ sym c.in-Ok-New.field-0-is ∙ c.in-Ok-New.ensures.told)

pub returns-in-Ok-Same-clause-held : goal.returns-in-Ok-Same-clause-held
returns-in-Ok-Same-clause-held g c =
    holds_put g.S.Shelf.contents c.args.store.now c.put_own.new.self c.args.key.now c.args.bytes (Ok Same)
    (subst (λ (put : Put). PutChanges g.S.Shelf.contents c.args.store.now c.put_own.new.self c.args.key.now c.args.bytes (Ok put)) c.in-Ok-Same.field-0-is c.in-Ok-Same.ensures.changes)
    (λ put same. sym (ok_same (Ok Same) Same put refl same) ∙ sym c.in-Ok-Same.field-0-is ∙ c.in-Ok-Same.ensures.told)

pub returns-in-Err-clause-held : goal.returns-in-Err-clause-held
returns-in-Err-clause-held g c =
    holds_put g.S.Shelf.contents c.args.store.now c.put_own.new.self c.args.key.now c.args.bytes (Err c.in-Err.fault) c.in-Err.ensures.changes (λ put same. absurd (ok_not_err (Err c.in-Err.fault) put c.in-Err.fault same refl))
