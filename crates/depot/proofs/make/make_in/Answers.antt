-- The opening commit is put where the slot is empty.
use Rattle.object_store.proofs.StrayLemmas.{strays_kept}
use Rattle.std.proofs.Common.{subst, subst₂, ap, ◌∙◌, option_map}
use Rattle.commit_objects.specs.declared.commit.Commit.{Commit}
use Rattle.library_rules.specs.Creation.{opening_commit, opening_object}
use Rattle.library_state.specs.declared.state.LibState.{LibState}
use Rattle.depot.specs.Giving.{GivesBy, IsOfMaking}
use Rattle.depot.specs.Make.{LeftUnmade, first_state}
use Rattle.depot.specs.Writing.{HasProperParents}
use Rattle.depot.proofs.GivingLemmas.{no_more, read_by}
use Rattle.depot.proofs.MakeLemmas.{proper_opening, unmade_from}
use Rattle.object_store.specs.Shelf.{Contents}
use Rattle.depot.proofs.make.make_in.Goals as goal

pub returns-in-Err-clause-lying : goal.returns-in-Err-clause-lying
returns-in-Err-clause-lying g c free = strays_kept g.S.Shelf.contents c.args.store.now c.check_empty.new.store c.in-Err.ensures.stays.index c.in-Err.ensures.stays.shelf

pub returns-in-Err-first_parts-clause-lying : goal.returns-in-Err-first_parts-clause-lying
returns-in-Err-first_parts-clause-lying g c free = strays_kept g.S.Shelf.contents c.args.store.now c.check_empty.new.store c.in-Ok.ensures.stays.index c.in-Ok.ensures.stays.shelf

pub returns-in-Ok-store_first-clause-lying : goal.returns-in-Ok-store_first-clause-lying
returns-in-Ok-store_first-clause-lying g c key stray =
    strays_kept g.S.Shelf.contents c.args.store.now c.check_empty.new.store c.in-Ok.ensures.stays.index c.in-Ok.ensures.stays.shelf key (c.in-Ok-store_first.ensures.lying key stray)

pub returns-clause-lying : goal.returns-clause-lying
returns-clause-lying g c free key stray =
    strays_kept g.S.Shelf.contents c.args.store.now c.check_empty.new.store c.in-Ok.ensures.stays.index c.in-Ok.ensures.stays.shelf key (c.in-Err-store_first.ensures.lying free key stray)

pub returns-in-Err-clause-gives : goal.returns-in-Err-clause-gives
returns-in-Err-clause-gives g c = no_more _ c.in-Err.ensures.reads.gives

pub returns-in-Err-first_parts-clause-gives : goal.returns-in-Err-first_parts-clause-gives
returns-in-Err-first_parts-clause-gives g c = no_more _ c.in-Ok.ensures.reads.gives

pub returns-in-Ok-store_first-clause-gives : goal.returns-in-Ok-store_first-clause-gives
returns-in-Ok-store_first-clause-gives g c =
    read_by c.in-Ok.ensures.reads.gives
    (subst (λ (commit : Commit). GivesBy (IsOfMaking (opening_object commit) (first_state c.args.lib c.args.name.now c.args.user.now c.args.secret (opening_commit c.args.lib c.args.user.now c.args.moment).id c.args.moment))
    (g.S.Shelf.may_give c.check_empty.new.store.shelf) (g.S.Shelf.may_give c.store_first.new.store.shelf)) c.in-Ok-first_parts.ensures.value.0
    (subst (λ (state : LibState). GivesBy (IsOfMaking (opening_object c.in-Ok-first_parts.parts.0) state)
    (g.S.Shelf.may_give c.check_empty.new.store.shelf) (g.S.Shelf.may_give c.store_first.new.store.shelf)) c.in-Ok-first_parts.ensures.value.1
    c.store_first.ensures.gives))

pub returns-clause-gives : goal.returns-clause-gives
returns-clause-gives g c =
    read_by c.in-Ok.ensures.reads.gives
    (subst (λ (commit : Commit). GivesBy (IsOfMaking (opening_object commit) (first_state c.args.lib c.args.name.now c.args.user.now c.args.secret (opening_commit c.args.lib c.args.user.now c.args.moment).id c.args.moment))
    (g.S.Shelf.may_give c.check_empty.new.store.shelf) (g.S.Shelf.may_give c.store_first.new.store.shelf)) c.in-Ok-first_parts.ensures.value.0
    (subst (λ (state : LibState). GivesBy (IsOfMaking (opening_object c.in-Ok-first_parts.parts.0) state)
    (g.S.Shelf.may_give c.check_empty.new.store.shelf) (g.S.Shelf.may_give c.store_first.new.store.shelf)) c.in-Ok-first_parts.ensures.value.1
    c.store_first.ensures.gives))

pub returns-clause-err : goal.returns-clause-err
returns-clause-err g c =
    let unmade : LeftUnmade g.S.Shelf.contents c.args.store.now (opening_commit c.args.lib c.args.user.now c.args.moment)
    (first_state c.args.lib c.args.name.now c.args.user.now c.args.secret (opening_commit c.args.lib c.args.user.now c.args.moment).id c.args.moment) c.store_first.new.store
    = unmade_from g.S.Shelf.contents c.args.store.now c.check_empty.new.store c.store_first.new.store (opening_commit c.args.lib c.args.user.now c.args.moment)
    (first_state c.args.lib c.args.name.now c.args.user.now c.args.secret (opening_commit c.args.lib c.args.user.now c.args.moment).id c.args.moment) c.in-Ok.ensures.stays
    (subst₂ (λ (commit : Commit) (state : LibState). HasProperParents commit → LeftUnmade g.S.Shelf.contents c.check_empty.new.store commit state c.store_first.new.store)
    c.in-Ok-first_parts.ensures.value.0 c.in-Ok-first_parts.ensures.value.1 c.in-Err-store_first.ensures.err (proper_opening c.args.lib c.args.user.now c.args.moment)) in
    (unmade, λ free. c.in-Err-store_first.ensures.unwritten free ∙ ap (option_map (λ (held : Contents). held.status)) c.in-Ok.ensures.stays.shelf)
