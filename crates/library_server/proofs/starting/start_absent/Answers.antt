-- What is opened where nothing was is what memory makes.
use Rattle.library_server.proofs.starting.start_absent.Goals as goal

pub returns-in-Memory-clause-gives : goal.returns-in-Memory-clause-gives
returns-in-Memory-clause-gives g c = rw c.in-Memory.is c.make_in_memory.ensures.gives

pub returns-in-Memory-clause-others : goal.returns-in-Memory-clause-others
returns-in-Memory-clause-others g c = rw c.in-Memory.is c.make_in_memory.ensures.others
