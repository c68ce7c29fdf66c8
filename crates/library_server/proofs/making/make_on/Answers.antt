-- Where no library was made, the slot holds what it held, or the new text.
use Rattle.std.proofs.Common.{◌∙◌, ap, inl, option_map, refl}
use Rattle.object_store.specs.Shelf.{Contents}
use Rattle.depot.proofs.MakeLemmas.{make_before}
use Rattle.depot.proofs.GivingLemmas.{read_by}
use Rattle.library_server.proofs.LeftLemmas.{left_unmade}
use Rattle.library_server.proofs.making.make_on.Goals as goal

pub returns-in-Err-clause-left : goal.returns-in-Err-clause-left
returns-in-Err-clause-left g c = λ held there. (held, c.in-Err.ensures.err ∙ there, inl refl)

pub returns-in-Err-make-clause-left : goal.returns-in-Err-make-clause-left
returns-in-Err-make-clause-left g c = λ held there.
    rw c.end.ensures.value (left_unmade g.S.Shelf.contents c.args.new.now c.args.moment c.in-Ok.store c.in-Err-make.store held c.in-Err-make.fault c.in-Err-make.ensures.err
    (ap (option_map (λ (h : Contents). h.status)) (c.in-Ok.ensures.ok.shelf ∙ there))
    (c.in-Ok.ensures.ok.objects ∙ ap (option_map (λ (h : Contents). h.objects)) there))

pub returns-in-Err-make-clause-cause : goal.returns-in-Err-make-clause-cause
returns-in-Err-make-clause-cause g c = make_before c.in-Ok.ensures.shelf.gives _ c.in-Err-make.fault c.in-Err-make.ensures.cause

pub returns-in-Ok-make-clause-gives : goal.returns-in-Ok-make-clause-gives
returns-in-Ok-make-clause-gives g c = read_by c.in-Ok.ensures.shelf.gives c.in-Ok-make.ensures.gives

pub returns-in-Ok-make-clause-lying : goal.returns-in-Ok-make-clause-lying
returns-in-Ok-make-clause-lying g c = λ key stray. c.in-Ok.ensures.lying key (c.in-Ok-make.ensures.lying key stray)
