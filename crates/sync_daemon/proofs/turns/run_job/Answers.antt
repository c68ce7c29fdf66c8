-- A job is synced.
use Rattle.std.proofs.Common.{refl}
use Rattle.sync_daemon.proofs.turns.run_job.Goals as goal

pub returns : goal.returns
returns g c = record { value = record { synced = c.sync_once.ensures.value; faults = c.sync_once.ensures.faults; peer = c.sync_once.ensures.stays; secret = refl; user = refl } }
