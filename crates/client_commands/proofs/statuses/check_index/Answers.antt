-- The index is there, or why not.
use Rattle.client_commands.proofs.KeepLemmas.{index_local}
use Rattle.client_commands.proofs.statuses.check_index.Goals as goal

pub returns-in-Ok-clause-value : goal.returns-in-Ok-clause-value
returns-in-Ok-clause-value g c = λ held told. (c.in-Ok.index, c.in-Ok.ensures.value held told)

pub returns-in-Err-clause-may : goal.returns-in-Err-clause-may
returns-in-Err-clause-may g c = index_local c.in-Err.fault c.in-Err.ensures.may
