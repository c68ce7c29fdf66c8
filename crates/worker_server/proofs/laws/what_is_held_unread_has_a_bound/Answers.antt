use Rattle.worker_server.proofs.HeldInputLemmas.{NeverHoldsMore-from_never_waits}
use Rattle.worker_server.proofs.laws.what_is_held_unread_has_a_bound.Goals as goal

pub returns : goal.returns
returns g c = λ input xs old new never. NeverHoldsMore-from_never_waits input xs old new never
