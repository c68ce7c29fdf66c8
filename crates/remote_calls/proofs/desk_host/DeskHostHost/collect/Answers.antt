-- The turns that were taken, and no record.
use Rattle.std.proofs.Common.{[], refl}
use Rattle.remote_calls.proofs.desk_host.DeskHostHost.collect.Goals as goal

pub returns-clause-asks : goal.returns-clause-asks
returns-clause-asks g c = ([], record { collects = c.collect.ensures.value; no_lines = refl })
