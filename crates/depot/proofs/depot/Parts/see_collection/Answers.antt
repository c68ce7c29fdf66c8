-- What was marked is marked back.
use Rattle.library_state.specs.declared.token.Token.{Token}
use Rattle.depot.proofs.PlaceLemmas.{marked_undone}
use Rattle.std.proofs.Common.{subst}
use Rattle.library_state.specs.declared.state.LibState.{LibState}
use Rattle.depot.specs.Giving.{GivesBy, IsOwnText}
use Rattle.depot.proofs.GivingLemmas.{then_by}
use Rattle.depot.proofs.depot.Parts.see_collection.Goals as goal

pub returns-in-Err-write_next-clause-err : goal.returns-in-Err-write_next-clause-err
returns-in-Err-write_next-clause-err g c =
    let d : Token = c.index-slice-place.result in
    marked_undone c.args.self.now.state c.settle.new.self.state c.write_next.new.self.state c.args.place d c.mark.new.tokens c.mark-in-Err-write_next.new.tokens c.slice.result.now
    c.requires.within c.in-Ok.ensures.state c.slice.ensures.value (c.mark.ensures.value d) c.write_next.ensures.state (c.mark-in-Err-write_next.ensures.value d)

pub returns-in-Ok-write_next-clause-lying : goal.returns-in-Ok-write_next-clause-lying
returns-in-Ok-write_next-clause-lying g c key stray = c.in-Ok.ensures.lying key (c.write_next.ensures.lying key stray)

pub returns-in-Err-write_next-clause-lying : goal.returns-in-Err-write_next-clause-lying
returns-in-Err-write_next-clause-lying g c key stray = c.in-Ok.ensures.lying key (c.write_next.ensures.lying key stray)

pub returns-in-Ok-write_next-clause-gives : goal.returns-in-Ok-write_next-clause-gives
returns-in-Ok-write_next-clause-gives g c =
    then_by c.in-Ok.ensures.gives
    (subst (λ (st : LibState). GivesBy (IsOwnText st.lib) (g.S.Shelf.may_give c.settle.new.self.store.shelf) (g.S.Shelf.may_give c.write_next.new.self.store.shelf)) c.in-Ok.ensures.state
    c.write_next.ensures.gives)

pub returns-in-Err-write_next-clause-gives : goal.returns-in-Err-write_next-clause-gives
returns-in-Err-write_next-clause-gives g c =
    then_by c.in-Ok.ensures.gives
    (subst (λ (st : LibState). GivesBy (IsOwnText st.lib) (g.S.Shelf.may_give c.settle.new.self.store.shelf) (g.S.Shelf.may_give c.write_next.new.self.store.shelf)) c.in-Ok.ensures.state
    c.write_next.ensures.gives)
