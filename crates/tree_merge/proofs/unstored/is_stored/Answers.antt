use Rattle.std.proofs.Common.{◌∙◌, ap₂, subst, sym}
use Rattle.std.specs.Str.{bytes_eq}
use Rattle.object_store.specs.Store.{IsWhole}
use Rattle.tree_walk.proofs.ReadsLemmas.{store_due}
use Rattle.tree_merge.proofs.UnstoredLemmas.{other_collides}
use Rattle.tree_merge.proofs.unstored.is_stored.Goals as goal

pub returns-clause-value : goal.returns-clause-value
returns-clause-value g c objects told =
    store_due objects c.args.key.now (g.S.Shelf.may_give c.get.new.self.shelf) c.in-Err.fault c.in-Err.ensures.damaged (c.in-Err.ensures.refused objects told)

pub returns-in-Ok-Some-clause-cause : goal.returns-in-Ok-Some-clause-cause
returns-in-Ok-Some-clause-cause g c =
    other_collides c.args.key.now c.args.bytes.now c.in-Ok-Some.stored c.requires.named
    (subst (IsWhole (g.S.Shelf.may_give c.get.new.self.shelf) c.args.key.now) c.in-Ok-Some.field-0-is c.in-Ok-Some.ensures.value).1
    (ap₂ bytes_eq (sym c.slice.ensures.value) (sym c.slice-in-Ok-Some.ensures.value) ∙ sym c.are_equal.ensures.value ∙ c.if-are_equal.false)
