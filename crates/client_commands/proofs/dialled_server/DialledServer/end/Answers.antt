-- Every link went back.
use Rattle.client_commands.proofs.SentLemmas.{counted_end}
use Rattle.client_commands.proofs.dialled_server.DialledServer.end.Goals as goal

pub returns-clause-counted : goal.returns-clause-counted
returns-clause-counted g c = rw (← c.self.view_is) (λ has. counted_end _ _ c.end.ensures.faults (c.self.invariant.counted has))
