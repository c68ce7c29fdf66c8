-- It is asked at the moment that the clock shows, and spares the library reading what is too much.
use Rattle.std.proofs.Common.{[]}
use Rattle.library_server.proofs.serving.AloneHost.ask_first.Goals as goal

pub returns-clause-asks : goal.returns-clause-asks
returns-clause-asks g c = (
  [],
  (c.now-moment.result, c.now-moment.ensures.value, c.answer_first.ensures.value),
  c.answer_first.ensures.bound,
)
