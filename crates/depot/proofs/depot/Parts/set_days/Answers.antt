-- Both writes change no object.
use Rattle.std.proofs.Common.{subst}
use Rattle.library_state.specs.declared.state.LibState.{LibState}
use Rattle.depot.specs.Giving.{GivesBy, IsOwnText}
use Rattle.depot.proofs.GivingLemmas.{then_by}
use Rattle.depot.proofs.depot.Parts.set_days.Goals as goal

pub returns-in-Ok-write_next-clause-lying : goal.returns-in-Ok-write_next-clause-lying
returns-in-Ok-write_next-clause-lying g c key stray = c.in-Ok.ensures.lying key (c.write_next.ensures.lying key stray)

pub returns-in-Err-write_next-clause-lying : goal.returns-in-Err-write_next-clause-lying
returns-in-Err-write_next-clause-lying g c key stray = c.in-Ok.ensures.lying key (c.write_next.ensures.lying key stray)

pub returns-in-Ok-write_next-clause-gives : goal.returns-in-Ok-write_next-clause-gives
returns-in-Ok-write_next-clause-gives g c =
    then_by c.in-Ok.ensures.gives
    (subst (λ (st : LibState). GivesBy (IsOwnText st.lib) (g.S.Shelf.may_give c.settle.new.self.store.shelf) (g.S.Shelf.may_give c.write_next.new.self.store.shelf)) c.in-Ok.ensures.state
    c.write_next.ensures.gives)

pub returns-in-Err-write_next-clause-gives : goal.returns-in-Err-write_next-clause-gives
returns-in-Err-write_next-clause-gives g c =
    then_by c.in-Ok.ensures.gives
    (subst (λ (st : LibState). GivesBy (IsOwnText st.lib) (g.S.Shelf.may_give c.settle.new.self.store.shelf) (g.S.Shelf.may_give c.write_next.new.self.store.shelf)) c.in-Ok.ensures.state
    c.write_next.ensures.gives)
