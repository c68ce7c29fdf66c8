-- The name of what is put is that of the call.
use Rattle.std.proofs.Common.{subst, sym}
use Rattle.depot.specs.ObjectCalls.{TellsName}
use Rattle.sync_calls.proofs.asking.name_at.Goals as goal

pub returns-in-Put : goal.returns-in-Put
returns-in-Put c = subst (λ a. TellsName a c.block_name.result) (sym c.in-Put.is) c.block_name.ensures
