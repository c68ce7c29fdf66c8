-- What was put is stored, and what wasn't left nothing.
use Rattle.std.proofs.Common.{◌∙◌, ◌≡◌, ◌⊎◌, ap, refl, subst, sym, Some, IsTrue, Ok, Err}
use Rattle.object_store.specs.Store.{IsPutFault, is_free, put_refusal}
use Rattle.object_store.specs.StoreView.{objects_of, with_object}
use Rattle.depot.proofs.UpdateInstallLemmas.{free_put, may_refuse_put, none_stored, one_stored}
use Rattle.object_store.specs.Shelf.{GivesAlso}
use Rattle.object_store.specs.declared.shelf.Slot.TheVariants.{Object}
use Rattle.depot.proofs.GivingLemmas.{named_by}
use Rattle.depot.proofs.HeldLemmas.{holds_one, knows_one, ok_same}
use Rattle.depot.proofs.ToldLemmas.{ok_not_err}
use Rattle.depot.proofs.update_install.put_one.Goals as goal

pub returns-in-Ok-clause-value : goal.returns-in-Ok-clause-value
returns-in-Ok-clause-value g c = record {
  objects = c.in-Ok.ensures.ok
      ∙ ap (with_object (objects_of g.S.Shelf.contents c.args.store.now) c.args.key.now) c.slice.ensures.value
      ∙ one_stored (objects_of g.S.Shelf.contents c.args.store.now) c.args.key.now c.args.bytes.now c.requires.ready;
  slot = c.in-Ok.ensures.stays;
  free = λ known told. tt;
  cause = tt;
  lying = c.in-Ok.ensures.lying;
  written = c.in-Ok.ensures.shelf.written;
  gives = named_by c.args.key.now c.args.bytes.now c.requires.named.0
      (subst (λ bytes. GivesAlso (g.S.Shelf.may_give c.args.store.now.shelf) (g.S.Shelf.may_give c.put.new.self.shelf) (Object c.args.key.now) (Some bytes)) c.slice.ensures.value c.in-Ok.ensures.shelf.gives);
  count = c.in-Ok.ensures.faults;
  held = holds_one g.S.Shelf.contents c.args.store.now c.put.new.self (record { key = c.args.key.now; bytes = c.args.bytes.now }) c.slice.result.now (Ok c.in-Ok.field-0) c.in-Ok.ensures.changes
      (λ put same. sym (ok_same (Ok c.in-Ok.field-0) c.in-Ok.field-0 put refl same) ∙ c.in-Ok.ensures.told);
  known = knows_one g.S.Shelf.contents c.args.store.now c.put.new.self (record { key = c.args.key.now; bytes = c.args.bytes.now }) c.slice.result.now c.in-Ok.field-0 c.in-Ok.ensures.changes c.in-Ok.ensures.told;
}

pub returns-in-Err-clause-value : goal.returns-in-Err-clause-value
returns-in-Err-clause-value g c = record {
  objects = none_stored _ _ _ c.in-Err.ensures.err;
  slot = c.in-Err.ensures.stays;
  free = λ objects told.
      free_put objects c.args.key.now c.args.bytes.now c.in-Err.fault (c.requires.ready objects told).0
      (subst (λ bytes. (put_refusal objects c.args.key.now bytes ≡ Some c.in-Err.fault) ⊎ IsTrue (is_free c.in-Err.fault)) c.slice.ensures.value
      (c.in-Err.ensures.refused objects told));
  cause = λ index.
      may_refuse_put index (g.S.Shelf.may_give c.put.new.self.shelf) c.args.key.now c.args.bytes.now c.in-Err.fault c.requires.named.0.0
      (subst (λ bytes. IsPutFault (g.S.Shelf.may_give c.put.new.self.shelf) c.args.key.now bytes c.in-Err.fault) c.slice.ensures.value c.in-Err.ensures.cause);
  lying = c.in-Err.ensures.lying;
  written = c.in-Err.ensures.shelf.written;
  gives = named_by c.args.key.now c.args.bytes.now c.requires.named.0
      (subst (λ bytes. GivesAlso (g.S.Shelf.may_give c.args.store.now.shelf) (g.S.Shelf.may_give c.put.new.self.shelf) (Object c.args.key.now) (Some bytes)) c.slice.ensures.value c.in-Err.ensures.shelf.gives);
  count = c.in-Err.ensures.faults;
  held = holds_one g.S.Shelf.contents c.args.store.now c.put.new.self (record { key = c.args.key.now; bytes = c.args.bytes.now }) c.slice.result.now (Err c.in-Err.fault) c.in-Err.ensures.changes
      (λ put same. absurd (ok_not_err (Err c.in-Err.fault) put c.in-Err.fault same refl));
  known = tt;
}
