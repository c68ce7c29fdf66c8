-- The text is written after the opening commit was put.
use Rattle.depot.proofs.StrayLemmas.{strays_unless}
use Rattle.depot.proofs.GivingLemmas.{commit_by, made_by}
use Rattle.depot.proofs.MakeLemmas.{left_unmade}
use Rattle.depot.specs.Make.{untouched}
use Rattle.depot.proofs.make.store_first.Goals as goal

pub returns-clause-lying : goal.returns-clause-lying
returns-clause-lying g c =
    strays_unless g.S.Shelf.contents c.args.store.now c.write_text.new.store c.write_text.result (λ key stray. c.in-Ok.ensures.lying key (c.write_text.ensures.lying key stray))

pub returns-in-Err-clause-gives : goal.returns-in-Err-clause-gives
returns-in-Err-clause-gives g c = commit_by c.args.state.now c.in-Err.ensures.gives

pub returns-clause-gives : goal.returns-clause-gives
returns-clause-gives g c = made_by c.args.state.now c.in-Ok.ensures.gives c.write_text.ensures.gives

pub returns-in-Err-clause-err : goal.returns-in-Err-clause-err
returns-in-Err-clause-err g c = λ proper. untouched c.in-Err.ensures.err c.in-Err.ensures.stays

pub returns-clause-err : goal.returns-clause-err
returns-clause-err g c =
    left_unmade g.S.Shelf.contents c.args.store.now c.put_commit.new.store c.write_text.new.store c.args.commit.now c.args.state.now c.write_text.result
    c.in-Ok.ensures.ok c.in-Ok.ensures.stays c.in-Ok.ensures.found c.write_text.ensures.stays c.write_text.ensures.value
