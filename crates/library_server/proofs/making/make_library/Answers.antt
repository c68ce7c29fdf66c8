-- What was handed out is empty, and comes back where no library was made on it.
use Rattle.std.proofs.Common.{◌∙◌}
use Rattle.folder_storage.specs.Ground.{no_contents}
use Rattle.library_server.specs.Standing.{came_back}
use Rattle.depot.proofs.GivingLemmas.{read_by}
use Rattle.library_server.proofs.StandingLemmas.{comes_back, others_all, others_back}
use Rattle.std.proofs.Common.{Err, refl}
use Rattle.std.specs.Prelude.{⊤}
use Rattle.depot.specs.Make.{is_make_counted}
use Rattle.depot.proofs.MakeLemmas.{make_before}
use Rattle.library_rules.specs.Creation.{opening_commit}
use Rattle.library_server.proofs.WholeLemmas.{made_whole, names_of, new_names, steady_count, want_whole}
use Rattle.library_server.proofs.making.make_library.Goals as goal

pub returns-in-Ok-None-clause-shown : goal.returns-in-Ok-None-clause-shown
returns-in-Ok-None-clause-shown g c = λ standing there.
    ((rw c.in-Ok-None.field-0-is at c.in-Ok-None.ensures.found) standing there, (rw c.in-Ok-None.field-0-is at c.in-Ok-None.ensures.ok) _ _ ∙ there)

pub returns-in-Err-clause-shown : goal.returns-in-Err-clause-shown
returns-in-Err-clause-shown g c = λ standing there. c.in-Err.ensures.err _ _ ∙ there

pub returns-in-Ok-clause-shown : goal.returns-in-Ok-clause-shown
returns-in-Ok-clause-shown g c = λ standing there.
    let made = (rw c.in-Ok-Some.field-0-is at c.in-Ok-Some.ensures.found) standing there in
    (made.0, g.G.S.Shelf.faults c.in-Ok-Some.shelf, c.in-Ok.ensures.shown no_contents made.1)

pub returns-in-Err-make_on-clause-shown : goal.returns-in-Err-make_on-clause-shown
returns-in-Err-make_on-clause-shown g c = λ standing there.
    let made = (rw c.in-Ok-Some.field-0-is at c.in-Ok-Some.ensures.found) standing there in
    let back = comes_back _ _ _ _ _ _ (rw c.in-Ok-Some.field-0-is at c.in-Ok-Some.ensures.ok) c.give_back.ensures.ok in
    let left = c.in-Err-make_on.ensures.left no_contents made.1 in
    (made.0, c.in-Err-make_on.ensures.refused no_contents made.1, (left.0, back.here standing left.0 there left.1, left.2))

pub returns-in-Err-make_on-clause-back : goal.returns-in-Err-make_on-clause-back
returns-in-Err-make_on-clause-back g c =
    came_back c.in-Err-make_on.shelf (comes_back _ _ _ _ _ _ (rw c.in-Ok-Some.field-0-is at c.in-Ok-Some.ensures.ok) c.give_back.ensures.ok)

pub returns-in-Ok-None-clause-steady : goal.returns-in-Ok-None-clause-steady
returns-in-Ok-None-clause-steady g c = λ steady standing there whole. refl

pub returns-in-Err-clause-steady : goal.returns-in-Err-clause-steady
returns-in-Err-clause-steady g c = λ steady standing there whole. want_whole c.in-Err.failed (c.in-Err.ensures.there standing there)

pub returns-in-Ok-clause-steady : goal.returns-in-Ok-clause-steady
returns-in-Ok-clause-steady g c = λ steady standing there whole.
    let made = (rw c.in-Ok-Some.field-0-is at c.in-Ok-Some.ensures.found) standing there in
    names_of g.G.S.Shelf.contents g.G.S.Shelf.faults c.in-Ok.depot _ (c.in-Ok.ensures.shown no_contents made.1)
    (new_names (opening_commit c.args.new.now.lib c.args.new.now.user c.args.moment).id _)

pub returns-in-Err-make_on-clause-steady : goal.returns-in-Err-make_on-clause-steady
returns-in-Err-make_on-clause-steady g c = λ steady standing there whole.
    let made = (rw c.in-Ok-Some.field-0-is at c.in-Ok-Some.ensures.found) standing there in
    made_whole (opening_commit c.args.new.now.lib c.args.new.now.user c.args.moment).id _ c.in-Err-make_on.fault
    (steady_count {T = ⊤} is_make_counted _ _ (Err c.in-Err-make_on.fault) (steady _) (steady _) c.in-Err-make_on.ensures.faults)
    (c.in-Err-make_on.ensures.refused no_contents made.1)

pub returns-in-Err-make_on-clause-cause : goal.returns-in-Err-make_on-clause-cause
returns-in-Err-make_on-clause-cause g c =
    make_before (rw c.in-Ok-Some.field-0-is at c.in-Ok-Some.ensures.handed) _ c.in-Err-make_on.fault c.in-Err-make_on.ensures.cause

pub returns-in-Ok-clause-gives : goal.returns-in-Ok-clause-gives
returns-in-Ok-clause-gives g c = read_by (rw c.in-Ok-Some.field-0-is at c.in-Ok-Some.ensures.handed) c.in-Ok.ensures.gives

pub returns-in-Ok-None-clause-others : goal.returns-in-Ok-None-clause-others
returns-in-Ok-None-clause-others g c = others_all c.args.folder.now c.args.new.now.lib c.in-Ok-None.ensures.gives

pub returns-in-Err-clause-others : goal.returns-in-Err-clause-others
returns-in-Err-clause-others g c = others_all c.args.folder.now c.args.new.now.lib c.in-Err.ensures.gives

pub returns-in-Ok-clause-others : goal.returns-in-Ok-clause-others
returns-in-Ok-clause-others g c = others_all c.args.folder.now c.args.new.now.lib c.in-Ok-Some.ensures.gives

pub returns-in-Err-make_on-clause-others : goal.returns-in-Err-make_on-clause-others
returns-in-Err-make_on-clause-others g c =
    others_back c.args.folder.now c.args.new.now.lib (others_all c.args.folder.now c.args.new.now.lib c.in-Ok-Some.ensures.gives) c.give_back.ensures.gives
