-- Each clause is a part of what the turn does and leaves.
use Rattle.depot.proofs.ClosingLemmas.{turn_keeps, turn_saves}
use Rattle.depot.proofs.depot.Depot.turn_of_collection.Goals as goal

pub take_turn-requires : goal.take_turn-requires
take_turn-requires g c = record { some = c.requires.some }

pub returns-clause-shown : goal.returns-clause-shown
returns-clause-shown g c = c.take_turn.ensures.value.told

pub returns-clause-stands : goal.returns-clause-stands
returns-clause-stands g c = c.take_turn.ensures.stands

pub returns-clause-files : goal.returns-clause-files
returns-clause-files g c =
    turn_keeps g.S.Shelf.contents g.S.Shelf.may_give g.S.Shelf.texts g.S.Shelf.faults c.args.self.now c.take_turn.new.self c.args.goal c.args.moment c.args.at_most c.take_turn.result
    c.take_turn.ensures.found c.take_turn.ensures.value

pub returns-clause-safe : goal.returns-clause-safe
returns-clause-safe g c =
    turn_saves g.S.Shelf.contents g.S.Shelf.may_give g.S.Shelf.texts g.S.Shelf.faults c.args.self.now c.take_turn.new.self c.args.goal c.args.moment c.args.at_most c.take_turn.result
    c.take_turn.ensures.found c.take_turn.ensures.value

pub returns-clause-cause : goal.returns-clause-cause
returns-clause-cause g c = c.take_turn.ensures.value.may_come

pub returns-clause-damaged : goal.returns-clause-damaged
returns-clause-damaged g c = c.take_turn.ensures.value.damage

pub returns-clause-needed : goal.returns-clause-needed
returns-clause-needed g c = c.take_turn.ensures.value.needed

pub returns-clause-opened : goal.returns-clause-opened
returns-clause-opened g c = c.take_turn.ensures.opened

pub returns-clause-faults : goal.returns-clause-faults
returns-clause-faults g c = c.take_turn.ensures.value.count

pub returns-clause-gives : goal.returns-clause-gives
returns-clause-gives g c = c.take_turn.ensures.value.gives

pub returns-clause-left : goal.returns-clause-left
returns-clause-left g c = c.take_turn.ensures.value.left

pub returns-clause-running : goal.returns-clause-running
returns-clause-running g c = c.take_turn.ensures.value.runs

pub returns-clause-marked : goal.returns-clause-marked
returns-clause-marked g c = c.take_turn.ensures.value.marked

pub returns-clause-held : goal.returns-clause-held
returns-clause-held g c = c.take_turn.ensures.value.index

pub returns-clause-size : goal.returns-clause-size
returns-clause-size g c = c.take_turn.ensures.value.number

pub returns-clause-lying : goal.returns-clause-lying
returns-clause-lying g c = c.take_turn.ensures.value.lying

pub returns-clause-text : goal.returns-clause-text
returns-clause-text g c = c.take_turn.ensures.value.slot

pub returns-clause-settled : goal.returns-clause-settled
returns-clause-settled g c = c.take_turn.ensures.value.beside
