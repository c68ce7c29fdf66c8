-- The same, and one send more is listed.
use Rattle.std.proofs.Common.{ℕ, List, subst}
use Rattle.remote_calls.specs.DeskRemote.{DesksOver}
use Rattle.remote_calls.proofs.desk_remote.DeskRemoteRemote.send.Goals as goal

pub returns-clause-value : goal.returns-clause-value
returns-clause-value c =
    rw (← c.self.view_is) (subst (λ (fails : List ℕ). DesksOver c.args.order.now
    (record { depot = c.self.inside.depot; fails = fails; count = c.self.inside.count; faults = c.self.inside.faults; sends = c.self.inside.sends.items })
    (record { depot = c.send_at-ending.new.depot; fails = fails; count = c.send_at-ending.new.count; faults = c.send_at-ending.new.faults; sends = c.list_send.new.sends.items })
    c.send_at-ending.result)
    c.slice.ensures.value (c.send_at-ending.ensures.value _ _))
