-- What was put is the commit's text, under a name that isn't forty zeros.
use Rattle.std.proofs.Common.{◌≡◌, Some, ap, subst, sym, ◌∙◌, refl}
use Rattle.commit_objects.specs.Commit.{commit_of}
use Rattle.library_rules.proofs.MemberLemmas.{same_id-itself}
use Rattle.ids.specs.ObjectId.{nil}
use Rattle.object_store.specs.Store.{same_bytes}
use Rattle.object_store.specs.StoreView.{objects_of}
use Rattle.object_store.specs.declared.error.StoreFault.TheVariants.{Taken}
use Rattle.depot.proofs.MakeLemmas.{commit_stored, commit_found}
use Rattle.depot.proofs.ToldLemmas.{ok_not_err}
use Rattle.library_rules.specs.Creation.{opening_object}
use Rattle.object_store.specs.Shelf.{GivesAlso}
use Rattle.object_store.specs.declared.shelf.Slot.TheVariants.{Object}
use Rattle.depot.proofs.commit_put.put_commit.Goals as goal

pub returns-in-Ok-put-clause-ok : goal.returns-in-Ok-put-clause-ok
returns-in-Ok-put-clause-ok g c =
    commit_stored (objects_of g.S.Shelf.contents c.args.store.now) (objects_of g.S.Shelf.contents c.put.new.self) c.args.commit.now c.slice.result.now
    (c.slice.ensures.value ∙ c.in-Ok.ensures.value) c.in-Ok-put.ensures.ok c.in-Ok-put.ensures.refused

pub returns-in-Ok-put-clause-found : goal.returns-in-Ok-put-clause-found
returns-in-Ok-put-clause-found g c = λ objects told parents.
    let named = λ (zeros : c.args.commit.now.id ≡ nil).
    ok_not_err c.put.result c.in-Ok-put.field-0 (Taken c.args.commit.now.id) c.in-Ok-put.is
    (c.put.ensures.taken refl (ap (same_bytes c.args.commit.now.id) (sym zeros) ∙ same_id-itself c.args.commit.now.id)) in
    commit_found (objects_of g.S.Shelf.contents c.args.store.now) (objects_of g.S.Shelf.contents c.put.new.self) c.args.commit.now c.slice.result.now
    (ap commit_of c.slice.ensures.value ∙ c.in-Ok.ensures.reads_back (record { id = named; parent = parents.parent; second_parent = parents.second_parent }))
    c.in-Ok-put.ensures.ok objects told

pub returns-in-Ok-put-clause-gives : goal.returns-in-Ok-put-clause-gives
returns-in-Ok-put-clause-gives g c =
    subst (λ text. GivesAlso (g.S.Shelf.may_give c.args.store.now.shelf) (g.S.Shelf.may_give c.put.new.self.shelf) (Object (opening_object c.args.commit.now).key) (Some text))
    (c.slice.ensures.value ∙ c.in-Ok.ensures.value) c.in-Ok-put.ensures.shelf.gives

pub returns-clause-gives : goal.returns-clause-gives
returns-clause-gives g c =
    subst (λ text. GivesAlso (g.S.Shelf.may_give c.args.store.now.shelf) (g.S.Shelf.may_give c.put.new.self.shelf) (Object (opening_object c.args.commit.now).key) (Some text))
    (c.slice.ensures.value ∙ c.in-Ok.ensures.value) c.in-Err-put.ensures.shelf.gives
