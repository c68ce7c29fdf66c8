-- What was opened is the library of the text.
use Rattle.std.proofs.Common.{◌∙◌, sym}
use Rattle.library_server.proofs.StartingLemmas.{gives_other, is_other, is_same, no_other, started_fault, started_none}
use Rattle.library_server.proofs.starting.start_named.Goals as goal

pub returns-else-ne-clause-named : goal.returns-else-ne-clause-named
returns-else-ne-clause-named g c = sym c.lib.ensures.value ∙ is_same _ _ c.if-ne.ensures

pub returns-else-ne-clause-gives : goal.returns-else-ne-clause-gives
returns-else-ne-clause-gives g c = c.in-Ok.ensures.gives

pub returns-else-ne-clause-refused : goal.returns-else-ne-clause-refused
returns-else-ne-clause-refused g c = λ objects status there at is. started_none c.args.lib.now objects status is (c.in-Ok.ensures.refused objects status there at)

pub returns-then-ne-clause-refused : goal.returns-then-ne-clause-refused
returns-then-ne-clause-refused g c = λ objects status there at is.
    absurd (no_other g.S.Shelf.contents g.S.Shelf.faults _ _ _ c.args.lib.now status c.in-Ok.ensures.value at is (λ same. is_other _ _ c.if-ne.ensures (c.lib.ensures.value ∙ same)))

pub returns-then-ne-clause-left : goal.returns-then-ne-clause-left
returns-then-ne-clause-left g c = λ status at is.
    no_other g.S.Shelf.contents g.S.Shelf.faults _ _ _ c.args.lib.now status c.in-Ok.ensures.value at is (λ same. is_other _ _ c.if-ne.ensures (c.lib.ensures.value ∙ same))

pub returns-then-ne-clause-stays : goal.returns-then-ne-clause-stays
returns-then-ne-clause-stays g c = rw c.close.ensures.value c.in-Ok.ensures.value.objects

pub returns-then-ne-clause-err_lying : goal.returns-then-ne-clause-err_lying
returns-then-ne-clause-err_lying g c = rw c.close.ensures.value c.in-Ok.ensures.lying

pub returns-then-ne-clause-cause : goal.returns-then-ne-clause-cause
returns-then-ne-clause-cause g c = gives_other (g.S.Shelf.may_give c.args.store.shelf) c.args.lib.now _ c.in-Ok.ensures.any (λ same. is_other _ _ c.if-ne.ensures (c.lib.ensures.value ∙ same))

pub returns-then-ne-clause-faults : goal.returns-then-ne-clause-faults
returns-then-ne-clause-faults g c = rw c.close.ensures.value c.in-Ok.ensures.value.count

pub returns-in-Err-clause-refused : goal.returns-in-Err-clause-refused
returns-in-Err-clause-refused g c = λ objects status there at is. started_fault c.args.lib.now objects status c.in-Err.fault is (c.in-Err.ensures.refused objects status there at)
