-- The number is raised for the text, and lowered again.
use Rattle.depot.proofs.BeginTurnLemmas.{lowered}
use Rattle.depot.proofs.turn.text_of_begin.Goals as goal

pub returns-clause-state : goal.returns-clause-state
returns-clause-state c = lowered c.args.state.now c.text_with-text.new.state c.text_with-text.ensures.state
