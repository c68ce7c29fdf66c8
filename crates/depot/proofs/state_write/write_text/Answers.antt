-- The text is the state's, and is read as it.
use Rattle.std.proofs.Common.{◌∙◌, Some, ap, subst, sym}
use Rattle.library_state.specs.StateText.{state_of}
use Rattle.object_store.specs.Shelf.{GivesAlso}
use Rattle.object_store.specs.declared.shelf.Slot.TheVariants.{Status}
use Rattle.depot.proofs.WritingLemmas.{noted_index, writes_noted}
use Rattle.depot.proofs.state_write.write_text.Goals as goal

pub returns-clause-value : goal.returns-clause-value
returns-clause-value g c =
    writes_noted g.S.Shelf.contents c.args.store.now c.note.new.self c.args.state.now c.slice.result.now c.note.result
    (c.slice.ensures.value ∙ c.in-Ok.ensures.value) (λ proper. ap state_of (sym c.in-Ok.ensures.value) ∙ c.in-Ok.ensures.reads_back proper) c.note.ensures.changes

pub returns-clause-held : goal.returns-clause-held
returns-clause-held g c = noted_index g.S.Shelf.contents c.args.store.now c.note.new.self c.slice.result.now c.note.result c.note.ensures.changes

pub returns-clause-gives : goal.returns-clause-gives
returns-clause-gives g c =
    subst (λ text. GivesAlso (g.S.Shelf.may_give c.args.store.now.shelf) (g.S.Shelf.may_give c.note.new.self.shelf) Status (Some text))
    (c.slice.ensures.value ∙ c.in-Ok.ensures.value) c.note.ensures.shelf.gives
