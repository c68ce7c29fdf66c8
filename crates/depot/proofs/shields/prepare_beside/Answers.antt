-- What is needed is listed, and what is made and not stored is fresh.
use Rattle.std.proofs.Common.{Err, Ok, ap, refl, subst, sym, ◌∙◌}
use Rattle.library_state.specs.declared.refusal.Refusal.{Refusal}
use Rattle.library_state.specs.declared.refusal.Refusal.TheVariants as refusal
use Rattle.object_store.specs.StoreView.{Index}
use Rattle.depot.specs.Answering.{MayRefuseUpdate}
use Rattle.depot.specs.Held.{lacking}
use Rattle.depot.specs.ObjectCalls.{IsToldRefusal}
use Rattle.depot.specs.Shields.{keys_made, unstored}
use Rattle.depot.specs.UpdateBase.{ReadsOnly}
use Rattle.depot.specs.declared.shields.Shields.{Shields}
use Rattle.depot.proofs.FreshLemmas.{fresh_itself, fresh_of, new_of}
use Rattle.depot.proofs.RefusalsLemmas.{may_refuse, none_due}
use Rattle.depot.proofs.UpdateBaseLemmas.{reads_refused, reads_then_says}
use Rattle.tree_walk.proofs.ReadsLemmas.{told_after}
use Rattle.depot.proofs.shields.prepare_beside.Goals as goal

pub returns-in-Err-clause-err : goal.returns-in-Err-clause-err
returns-in-Err-clause-err g c = fresh_itself c.args.running.now

pub returns-in-Err-clause-refused : goal.returns-in-Err-clause-refused
returns-in-Err-clause-refused g c = λ objects told whole.
    subst (IsToldRefusal objects) (sym c.walk_refusal.ensures.value) (none_due objects c.in-Err.fault (c.in-Err.ensures.refused objects told whole))

pub returns-in-Err-clause-cause : goal.returns-in-Err-clause-cause
returns-in-Err-clause-cause g c =
    subst (MayRefuseUpdate c.needed_keys.new.store.index (g.S.Shelf.may_give c.needed_keys.new.store.shelf)) (sym c.walk_refusal.ensures.value)
    (may_refuse c.needed_keys.new.store.index (g.S.Shelf.may_give c.needed_keys.new.store.shelf) c.in-Err.fault c.in-Err.ensures.stays.cause)

pub returns-in-Err-clause-stays : goal.returns-in-Err-clause-stays
returns-in-Err-clause-stays g c =
    subst (λ (why : Refusal). ReadsOnly {T = Shields} g.S.Shelf.contents g.S.Shelf.may_give g.S.Shelf.texts g.S.Shelf.faults c.args.store.now c.needed_keys.new.store (Err why)) (sym c.walk_refusal.ensures.value)
    (reads_refused c.in-Err.fault c.in-Err.ensures.stays)

pub returns-in-Err-made_keys-clause-stays : goal.returns-in-Err-made_keys-clause-stays
returns-in-Err-made_keys-clause-stays g c = reads_then_says c.in-Ok.needed (Err refusal.NoMemory) c.in-Ok.ensures.stays refl

pub returns-in-Err-freshen-clause-stays : goal.returns-in-Err-freshen-clause-stays
returns-in-Err-freshen-clause-stays g c = reads_then_says c.in-Ok.needed (Err refusal.NoMemory) c.in-Ok.ensures.stays refl

pub returns-in-Ok-freshen-clause-stays : goal.returns-in-Ok-freshen-clause-stays
returns-in-Ok-freshen-clause-stays g c =
    reads_then_says c.in-Ok.needed (Ok (record { needed = c.in-Ok.needed; made = c.in-Ok-freshen.made })) c.in-Ok.ensures.stays refl

pub returns-in-Err-made_keys-clause-err : goal.returns-in-Err-made_keys-clause-err
returns-in-Err-made_keys-clause-err g c = fresh_itself c.args.running.now

pub returns-in-Ok-freshen-clause-value : goal.returns-in-Ok-freshen-clause-value
returns-in-Ok-freshen-clause-value g c = λ objects told whole. c.in-Ok.ensures.value objects told whole

pub returns-in-Ok-freshen-clause-made : goal.returns-in-Ok-freshen-clause-made
returns-in-Ok-freshen-clause-made g c =
    new_of c.slice.result.now _ c.args.running.now c.in-Ok-freshen.made
    (c.slice.ensures.value ∙ c.in-Ok-made_keys.ensures.value ∙ ap (λ (index : Index). lacking index (keys_made c.args.plan.now)) c.in-Ok.ensures.stays.kept.index) c.in-Ok-freshen.ensures.new

pub returns-in-Ok-freshen-clause-ok : goal.returns-in-Ok-freshen-clause-ok
returns-in-Ok-freshen-clause-ok g c =
    fresh_of c.slice.result.now _ c.args.running.now c.freshen.new.self
    (c.slice.ensures.value ∙ c.in-Ok-made_keys.ensures.value ∙ ap (λ (index : Index). lacking index (keys_made c.args.plan.now)) c.in-Ok.ensures.stays.kept.index) c.in-Ok-freshen.ensures.ok

pub returns-in-Ok-freshen-clause-shown : goal.returns-in-Ok-freshen-clause-shown
returns-in-Ok-freshen-clause-shown g c = λ objects told.
    let same = c.slice.ensures.value ∙ c.in-Ok-made_keys.ensures.shown objects (told_after c.in-Ok.ensures.stays told) in (
      new_of c.slice.result.now (unstored objects (keys_made c.args.plan.now)) c.args.running.now c.in-Ok-freshen.made same c.in-Ok-freshen.ensures.new,
      fresh_of c.slice.result.now (unstored objects (keys_made c.args.plan.now)) c.args.running.now c.freshen.new.self same c.in-Ok-freshen.ensures.ok,
    )
