-- The link that was kept went back.
use Rattle.std.proofs.Common.{refl}
use Rattle.remote_calls.specs.Exchange.{link_view}
use Rattle.remote_calls.proofs.LinkChoiceLemmas.{left_all}
use Rattle.remote_calls.proofs.http_remote.leave_kept.Goals as goal

pub returns-clause-value : goal.returns-clause-value
returns-clause-value g c =
    let view = link_view g.D.L.Link.left g.D.L.Link.taken g.D.L.Link.given g.D.L.Link.asked g.D.L.Link.faults in
    rw (← c.take-last.ensures.value)
    (left_all view g.D.Dial.back g.D.Dial.faults g.D.L.Link.faults c.args.dial.now c.hang_up.new.dial c.take-last.result c.take-last.new.self (λ link. refl)
    c.take-last.ensures.after c.hang_up.ensures.back c.hang_up.ensures.faults)
