-- The library that is opened is that of the shelf's text, with all that lies there, and the one that was named.
use Rattle.std.proofs.Common.{◌∙◌, ap, inl, option_map, refl}
use Rattle.depot.specs.DepotView.{library}
use Rattle.library_rules.specs.Recovery.{opened}
use Rattle.object_store.proofs.ShelfLemmas.{reads_then}
use Rattle.object_store.proofs.StrayLemmas.{strays_kept}
use Rattle.object_store.specs.Shelf.{Contents}
use Rattle.depot.proofs.GivingLemmas.{also_read}
use Rattle.library_server.proofs.LeftLemmas.{left_checked, left_unstarted}
use Rattle.library_server.proofs.StartingLemmas.{found_named, next_before, unstarted_before}
use Rattle.library_server.proofs.starting.start_on.Goals as goal

pub returns-in-Ok-start_named-clause-shown : goal.returns-in-Ok-start_named-clause-shown
returns-in-Ok-start_named-clause-shown g c = λ held there.
    let objects = c.in-Ok-check_named.ensures.stays.objects ∙ (c.in-Ok.ensures.ok.objects ∙ ap (option_map (λ (h : Contents). h.objects)) there) in
    let status = ap (option_map (λ (h : Contents). h.status)) (c.in-Ok-check_named.ensures.stays.shelf ∙ (c.in-Ok.ensures.ok.shelf ∙ there)) in
    let opens = c.in-Ok-start_named.ensures.shown held.objects objects in
    let count = g.S.Shelf.faults c.check_named.new.store.shelf in (
      opened held.objects count (library opens.found count held.objects),
      opens.state,
      record {
        text = opens.is_found.text;
        found = opens.found;
        count = count;
        there = opens.is_found.told held.status status;
        reads = opens.is_found.reads;
        named = found_named c.args.lib.now held.status (c.in-Ok-check_named.ensures.named held.status (ap (option_map (λ (h : Contents). h.status)) (c.in-Ok.ensures.ok.shelf ∙ there)))
            opens.is_found.text opens.found (opens.is_found.told held.status status) opens.is_found.reads;
        state = refl;
      },
    )

pub returns-in-Ok-start_named-clause-refused : goal.returns-in-Ok-start_named-clause-refused
returns-in-Ok-start_named-clause-refused g c = λ held there.
    let objects = c.in-Ok-check_named.ensures.stays.objects ∙ (c.in-Ok.ensures.ok.objects ∙ ap (option_map (λ (h : Contents). h.objects)) there) in
    let before = ap (option_map (λ (h : Contents). h.status)) (c.in-Ok.ensures.ok.shelf ∙ there) in
    let status = ap (option_map (λ (h : Contents). h.status)) (c.in-Ok-check_named.ensures.stays.shelf ∙ (c.in-Ok.ensures.ok.shelf ∙ there)) in
    c.in-Ok-start_named.ensures.refused held.objects held.status objects status (c.in-Ok-check_named.ensures.named held.status before)

pub returns-in-Err-start_named-clause-refused : goal.returns-in-Err-start_named-clause-refused
returns-in-Err-start_named-clause-refused g c = λ held there.
    let objects = c.in-Ok-check_named.ensures.stays.objects ∙ (c.in-Ok.ensures.ok.objects ∙ ap (option_map (λ (h : Contents). h.objects)) there) in
    let before = ap (option_map (λ (h : Contents). h.status)) (c.in-Ok.ensures.ok.shelf ∙ there) in
    let status = ap (option_map (λ (h : Contents). h.status)) (c.in-Ok-check_named.ensures.stays.shelf ∙ (c.in-Ok.ensures.ok.shelf ∙ there)) in
    c.in-Err-start_named.ensures.refused held.objects held.status objects status (c.in-Ok-check_named.ensures.named held.status before)

pub returns-in-Err-check_named-clause-refused : goal.returns-in-Err-check_named-clause-refused
returns-in-Err-check_named-clause-refused g c = λ held there.
    c.in-Err-check_named.ensures.refused held.objects held.status (ap (option_map (λ (h : Contents). h.status)) (c.in-Ok.ensures.ok.shelf ∙ there))

pub returns-in-Err-clause-left : goal.returns-in-Err-clause-left
returns-in-Err-clause-left g c = λ held there. (held, c.in-Err.ensures.err ∙ there, refl, inl refl)

pub returns-in-Err-check_named-clause-left : goal.returns-in-Err-check_named-clause-left
returns-in-Err-check_named-clause-left g c = λ held there.
    rw c.end.ensures.value (left_checked c.in-Err-check_named.why held _ (c.in-Err-check_named.ensures.stays.shelf ∙ (c.in-Ok.ensures.ok.shelf ∙ there)))

pub returns-in-Err-start_named-clause-left : goal.returns-in-Err-start_named-clause-left
returns-in-Err-start_named-clause-left g c = λ held there.
    let objects = c.in-Ok-check_named.ensures.stays.objects ∙ (c.in-Ok.ensures.ok.objects ∙ ap (option_map (λ (h : Contents). h.objects)) there) in
    let before = ap (option_map (λ (h : Contents). h.status)) (c.in-Ok.ensures.ok.shelf ∙ there) in
    let status = ap (option_map (λ (h : Contents). h.status)) (c.in-Ok-check_named.ensures.stays.shelf ∙ (c.in-Ok.ensures.ok.shelf ∙ there)) in
    rw c.end-in-Err-start_named.ensures.value (left_unstarted g.S.Shelf.contents c.check_named.new.store c.in-Err-start_named.store held c.in-Err-start_named.why
    (λ key stray. c.in-Ok.ensures.lying key (strays_kept g.S.Shelf.contents c.in-Ok.store c.check_named.new.store c.in-Ok-check_named.ensures.stays.index c.in-Ok-check_named.ensures.stays.shelf key
    (c.in-Err-start_named.ensures.err_lying key stray)))
    (c.in-Err-start_named.ensures.left held.status status (c.in-Ok-check_named.ensures.named held.status before)) status (c.in-Err-start_named.ensures.stays ∙ objects))

pub returns-in-Ok-start_named-clause-any : goal.returns-in-Ok-start_named-clause-any
returns-in-Ok-start_named-clause-any g c = next_before _ (reads_then c.in-Ok.ensures.shelf c.in-Ok-check_named.ensures.reads).gives c.in-Ok-start_named.ensures.any

pub returns-in-Err-check_named-clause-cause : goal.returns-in-Err-check_named-clause-cause
returns-in-Err-check_named-clause-cause g c = unstarted_before c.args.lib.now c.in-Err-check_named.why c.in-Ok.ensures.shelf.gives c.in-Err-check_named.ensures.cause

pub returns-in-Err-start_named-clause-cause : goal.returns-in-Err-start_named-clause-cause
returns-in-Err-start_named-clause-cause g c =
    unstarted_before c.args.lib.now c.in-Err-start_named.why (reads_then c.in-Ok.ensures.shelf c.in-Ok-check_named.ensures.reads).gives c.in-Err-start_named.ensures.cause

pub returns-in-Ok-start_named-clause-gives : goal.returns-in-Ok-start_named-clause-gives
returns-in-Ok-start_named-clause-gives g c = also_read (reads_then c.in-Ok.ensures.shelf c.in-Ok-check_named.ensures.reads).gives c.in-Ok-start_named.ensures.gives

pub returns-in-Ok-start_named-clause-lying : goal.returns-in-Ok-start_named-clause-lying
returns-in-Ok-start_named-clause-lying g c = λ key stray.
    c.in-Ok.ensures.lying key (strays_kept g.S.Shelf.contents c.in-Ok.store c.check_named.new.store c.in-Ok-check_named.ensures.stays.index c.in-Ok-check_named.ensures.stays.shelf key
    (c.in-Ok-start_named.ensures.lying key stray))
