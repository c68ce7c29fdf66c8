-- What is answered to a question, whatever it spares.
use Rattle.sync_calls.proofs.asking.Hall+S.ask.Goals as goal

pub returns-clause-asks : goal.returns-clause-asks
returns-clause-asks g c = (c.ask_by.ensures.asks.0, c.ask_by.ensures.asks.1)
