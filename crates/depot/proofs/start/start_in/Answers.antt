-- The state that was read is proper, its commits are complete, and it can be opened once more.
use Rattle.std.proofs.Common.{◌∙◌, refl, sym}
use Rattle.depot.proofs.StartLemmas.{left_unopened, opened_over, same_status, state_cause}
use Rattle.object_store.proofs.StrayLemmas.{strays_kept}
use Rattle.depot.proofs.GivingLemmas.{also_read}
use Rattle.depot.proofs.start.start_in.Goals as goal

pub check_state-requires : goal.check_state-requires
check_state-requires g c = record { known = λ objects told. c.requires.known objects (sym c.in-Ok.ensures.stays.objects ∙ told) }

pub returns-in-Err-check_state-clause-known : goal.returns-in-Err-check_state-clause-known
returns-in-Err-check_state-clause-known g c = λ objects told. c.in-Err-check_state.ensures.known objects (c.in-Ok.ensures.stays.objects ∙ told)

pub returns-in-Ok-write_text-clause-known : goal.returns-in-Ok-write_text-clause-known
returns-in-Ok-write_text-clause-known g c = λ objects told. c.in-Ok-check_state.ensures.known objects (c.in-Ok.ensures.stays.objects ∙ told)

pub returns-in-Err-write_text-clause-known : goal.returns-in-Err-write_text-clause-known
returns-in-Err-write_text-clause-known g c = λ objects told. c.in-Ok-check_state.ensures.known objects (c.in-Ok.ensures.stays.objects ∙ told)

pub returns-in-Ok-write_text-clause-sound : goal.returns-in-Ok-write_text-clause-sound
returns-in-Ok-write_text-clause-sound g c = λ objects count told.
    opened_over c.in-Ok.state objects count c.in-Ok.ensures.proper c.in-Ok-check_state.ensures.ok
    (c.in-Ok-check_state.ensures.refused objects (sym c.in-Ok-check_state.ensures.stays.objects ∙ sym c.in-Ok-write_text.ensures.stays ∙ told))

pub returns-in-Err-write_text-clause-err : goal.returns-in-Err-write_text-clause-err
returns-in-Err-write_text-clause-err g c =
    left_unopened g.S.Shelf.contents c.args.store.now c.check_state.new.store c.write_text.new.store c.in-Ok.state c.in-Err-write_text.fault c.in-Ok.ensures.value
    c.in-Ok-check_state.ensures.ok (same_status g.S.Shelf.contents c.args.store.now c.read_state.new.store c.check_state.new.store c.in-Ok.ensures.stays c.in-Ok-check_state.ensures.stays)
    c.in-Err-write_text.ensures.value

pub returns-in-Ok-write_text-clause-any : goal.returns-in-Ok-write_text-clause-any
returns-in-Ok-write_text-clause-any g c = record { found = c.in-Ok.state; given = c.in-Ok.ensures.any; next = refl }

pub returns-in-Err-check_state-clause-cause : goal.returns-in-Err-check_state-clause-cause
returns-in-Err-check_state-clause-cause g c =
    state_cause (g.S.Shelf.may_give c.args.store.now.shelf) (g.S.Shelf.may_give c.read_state.new.store.shelf) c.in-Ok.state c.in-Err-check_state.fault c.in-Ok.ensures.any
    c.in-Ok.ensures.reads.gives c.in-Err-check_state.ensures.cause

pub returns-in-Err-clause-lying : goal.returns-in-Err-clause-lying
returns-in-Err-clause-lying g c = strays_kept g.S.Shelf.contents c.args.store.now c.read_state.new.store c.in-Err.ensures.stays.index c.in-Err.ensures.stays.shelf

pub returns-in-Err-check_state-clause-lying : goal.returns-in-Err-check_state-clause-lying
returns-in-Err-check_state-clause-lying g c =
    strays_kept g.S.Shelf.contents c.args.store.now c.check_state.new.store
    (c.in-Err-check_state.ensures.stays.index ∙ c.in-Ok.ensures.stays.index) (c.in-Err-check_state.ensures.stays.shelf ∙ c.in-Ok.ensures.stays.shelf)

pub returns-in-Ok-write_text-clause-lying : goal.returns-in-Ok-write_text-clause-lying
returns-in-Ok-write_text-clause-lying g c key stray =
    strays_kept g.S.Shelf.contents c.args.store.now c.check_state.new.store
    (c.in-Ok-check_state.ensures.stays.index ∙ c.in-Ok.ensures.stays.index) (c.in-Ok-check_state.ensures.stays.shelf ∙ c.in-Ok.ensures.stays.shelf)
    key (c.in-Ok-write_text.ensures.lying key stray)

pub returns-in-Err-write_text-clause-lying : goal.returns-in-Err-write_text-clause-lying
returns-in-Err-write_text-clause-lying g c key stray =
    strays_kept g.S.Shelf.contents c.args.store.now c.check_state.new.store
    (c.in-Ok-check_state.ensures.stays.index ∙ c.in-Ok.ensures.stays.index) (c.in-Ok-check_state.ensures.stays.shelf ∙ c.in-Ok.ensures.stays.shelf)
    key (c.in-Err-write_text.ensures.lying key stray)

pub returns-in-Ok-write_text-clause-gives : goal.returns-in-Ok-write_text-clause-gives
returns-in-Ok-write_text-clause-gives g c = also_read c.in-Ok.ensures.reads.gives (also_read c.in-Ok-check_state.ensures.reads.gives c.in-Ok-write_text.ensures.gives)
