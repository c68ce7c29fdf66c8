-- What was found is started, and comes back where it isn't.
use Rattle.std.proofs.Common.{◌∙◌, sym}
use Rattle.server_words.specs.Spelling.{location_text}
use Rattle.library_server.specs.Starting.{objects_in, reopened}
use Rattle.library_server.specs.Standing.{came_back}
use Rattle.library_server.proofs.CauseLemmas.{absent_gives, started_gives}
use Rattle.library_server.proofs.LeftLemmas.{left_kept}
use Rattle.library_server.proofs.StartingLemmas.{absent_cause, absent_given, counted_absent, opened_state, unstarted_before}
use Rattle.library_server.proofs.StandingLemmas.{comes_back, hands_after, others_all, others_back, others_then}
use Rattle.std.proofs.Common.{Err, Some, ap, subst}
use Rattle.std.specs.Prelude.{⊤}
use Rattle.library_server.specs.Starting.{is_unstarted_counted}
use Rattle.library_server.specs.Whole.{IsWhole}
use Rattle.library_server.proofs.WholeLemmas.{names_of, opened_names, started_whole, steady_count, want_whole, whole_in}
use Rattle.library_server.proofs.starting.start_counted.Goals as goal

pub returns-in-Ok-None-clause-back : goal.returns-in-Ok-None-clause-back
returns-in-Ok-None-clause-back g c =
    hands_after g.G.S.Shelf.contents _ _ _ _ _ c.start_absent.result (rw c.in-Ok-None.field-0-is at c.in-Ok-None.ensures.ok) c.start_absent.ensures.back

pub returns-in-Ok-clause-shown : goal.returns-in-Ok-clause-shown
returns-in-Ok-clause-shown g c = λ standing there.
    let found = (rw c.in-Ok-Some.field-0-is at (rw c.folder_word-folder.ensures.value at c.in-Ok-Some.ensures.found)) standing there in
    let opens = c.in-Ok.ensures.shown found.0 found.2 in
    (opens.0, opens.1, reopened found.0 found.1 opens.2)

pub returns-in-Err-start_on-clause-shown : goal.returns-in-Err-start_on-clause-shown
returns-in-Err-start_on-clause-shown g c = λ standing there.
    let found = (rw c.in-Ok-Some.field-0-is at (rw c.folder_word-folder.ensures.value at c.in-Ok-Some.ensures.found)) standing there in
    let back = comes_back _ _ _ _ _ _
    (rw c.in-Ok-Some.field-0-is at (rw c.folder_word-folder.ensures.value at c.in-Ok-Some.ensures.ok))
    (rw c.folder_word-folder.ensures.value at c.give_back.ensures.ok) in
    let left = c.in-Err-start_on.ensures.left found.0 found.2 in
    let kept = left_kept c.in-Err-start_on.why found.0 _ left in
    (found.0, found.1, c.in-Err-start_on.ensures.refused found.0 found.2, (kept.0, back.here standing kept.0 there kept.1, kept.2))

pub returns-in-Err-start_on-clause-back : goal.returns-in-Err-start_on-clause-back
returns-in-Err-start_on-clause-back g c =
    came_back c.in-Err-start_on.shelf (comes_back _ _ _ _ _ _
    (rw c.in-Ok-Some.field-0-is at (rw c.folder_word-folder.ensures.value at c.in-Ok-Some.ensures.ok))
    (rw c.folder_word-folder.ensures.value at c.give_back.ensures.ok))

pub returns-in-Err-clause-shown : goal.returns-in-Err-clause-shown
returns-in-Err-clause-shown g c = λ standing there. c.in-Err.ensures.err _ _ ∙ there

pub returns-in-Ok-clause-any : goal.returns-in-Ok-clause-any
returns-in-Ok-clause-any g c =
    opened_state c.args.location.now c.args.lib _ _ (rw c.in-Ok-Some.field-0-is at (rw c.folder_word-folder.ensures.value at c.in-Ok-Some.ensures.handed)) c.in-Ok.ensures.any c.in-Ok.ensures.named

pub returns-in-Err-start_on-clause-cause : goal.returns-in-Err-start_on-clause-cause
returns-in-Err-start_on-clause-cause g c =
    unstarted_before c.args.lib c.in-Err-start_on.why (rw c.in-Ok-Some.field-0-is at (rw c.folder_word-folder.ensures.value at c.in-Ok-Some.ensures.handed)) c.in-Err-start_on.ensures.cause

pub returns-in-Ok-None-clause-any : goal.returns-in-Ok-None-clause-any
returns-in-Ok-None-clause-any g c = absent_given c.args.location.now c.args.lib _ (λ opened. opened.0.state) c.start_absent.result (c.in-Ok-None.ensures.gives _ _) c.start_absent.ensures.any

pub returns-in-Ok-None-clause-cause : goal.returns-in-Ok-None-clause-cause
returns-in-Ok-None-clause-cause g c = absent_cause c.args.location.now c.args.lib _ c.start_absent.result (c.in-Ok-None.ensures.gives _ _) c.start_absent.ensures.cause

pub returns-in-Ok-None-clause-steady : goal.returns-in-Ok-None-clause-steady
returns-in-Ok-None-clause-steady g c = λ steady standing there whole.
    let absent = (rw c.in-Ok-None.field-0-is at (rw c.folder_word-folder.ensures.value at c.in-Ok-None.ensures.found)) standing there in
    c.start_absent.ensures.steady steady ((rw c.in-Ok-None.field-0-is at c.in-Ok-None.ensures.ok) _ _ ∙ there ∙ ap Some absent)

pub returns-in-Err-clause-steady : goal.returns-in-Err-clause-steady
returns-in-Err-clause-steady g c = λ steady standing there whole.
    want_whole c.in-Err.failed ((rw c.folder_word-folder.ensures.value at c.in-Err.ensures.there) standing there (whole_in standing whole))

pub returns-in-Ok-clause-steady : goal.returns-in-Ok-clause-steady
returns-in-Ok-clause-steady g c = λ steady standing there whole.
    let found = (rw c.in-Ok-Some.field-0-is at (rw c.folder_word-folder.ensures.value at c.in-Ok-Some.ensures.found)) standing there in
    let opens = c.in-Ok.ensures.shown found.0 found.2 in
    names_of g.G.S.Shelf.contents g.G.S.Shelf.faults c.in-Ok.opened.0 opens.0 opens.1 (opened_names c.args.lib found.0 opens.0 opens.2 (subst IsWhole found.1 whole))

pub returns-in-Err-start_on-clause-steady : goal.returns-in-Err-start_on-clause-steady
returns-in-Err-start_on-clause-steady g c = λ steady standing there whole.
    let found = (rw c.in-Ok-Some.field-0-is at (rw c.folder_word-folder.ensures.value at c.in-Ok-Some.ensures.found)) standing there in
    started_whole c.args.lib found.0.objects found.0.status c.in-Err-start_on.why (subst IsWhole found.1 whole)
    (steady_count {T = ⊤} is_unstarted_counted _ _ (Err c.in-Err-start_on.why) (steady _) (steady _) c.in-Err-start_on.ensures.faults)
    (c.in-Err-start_on.ensures.refused found.0 found.2)

pub returns-in-Ok-clause-gives : goal.returns-in-Ok-clause-gives
returns-in-Ok-clause-gives g c =
    started_gives c.args.location.now c.args.lib (g.C.Clock.shows c.args.clock.now) c.in-Ok.opened.0.state (rw c.in-Ok-Some.field-0-is at (rw c.folder_word-folder.ensures.value at c.in-Ok-Some.ensures.handed)) c.in-Ok.ensures.gives

pub returns-in-Ok-None-clause-gives : goal.returns-in-Ok-None-clause-gives
returns-in-Ok-None-clause-gives g c =
    absent_gives c.args.location.now c.args.lib (g.C.Clock.shows c.args.clock.now) g.G.S.Shelf.may_give (λ opened. opened.0) c.start_absent.result
    (c.in-Ok-None.ensures.gives (location_text c.args.location.now) c.args.lib) c.start_absent.ensures.gives

pub returns-in-Ok-None-clause-others : goal.returns-in-Ok-None-clause-others
returns-in-Ok-None-clause-others g c = others_then (location_text c.args.location.now) c.args.lib c.in-Ok-None.ensures.gives c.start_absent.ensures.others

pub returns-in-Err-clause-others : goal.returns-in-Err-clause-others
returns-in-Err-clause-others g c = others_all (location_text c.args.location.now) c.args.lib c.in-Err.ensures.gives

pub returns-in-Ok-clause-others : goal.returns-in-Ok-clause-others
returns-in-Ok-clause-others g c = others_all (location_text c.args.location.now) c.args.lib c.in-Ok-Some.ensures.gives

pub returns-in-Err-start_on-clause-others : goal.returns-in-Err-start_on-clause-others
returns-in-Err-start_on-clause-others g c =
    others_back (location_text c.args.location.now) c.args.lib (others_all (location_text c.args.location.now) c.args.lib c.in-Ok-Some.ensures.gives)
    (rw c.folder_word-folder.ensures.value at c.give_back.ensures.gives)

pub returns-in-Ok-None-clause-size : goal.returns-in-Ok-None-clause-size
returns-in-Ok-None-clause-size g c = λ standing there.
    let absent = (rw c.in-Ok-None.field-0-is at (rw c.folder_word-folder.ensures.value at c.in-Ok-None.ensures.found)) standing there in
    counted_absent c.start_absent.result standing absent c.start_absent.ensures.size

pub returns-in-Ok-clause-size : goal.returns-in-Ok-clause-size
returns-in-Ok-clause-size g c = λ standing there.
    let found = (rw c.in-Ok-Some.field-0-is at (rw c.folder_word-folder.ensures.value at c.in-Ok-Some.ensures.found)) standing there in
    c.in-Ok.ensures.size found.0 found.2 ∙ ap objects_in (sym found.1)
