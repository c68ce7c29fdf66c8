-- No link could be made, or the order went over one.
use Rattle.std.proofs.Common.{sym, subst}
use Rattle.http_front.specs.Dial.{DialsOnly}
use Rattle.http_front.specs.declared.outcome.Outcome.{Outcome}
use Rattle.remote_calls.specs.Exchange.{link_view}
use Rattle.remote_calls.specs.HttpRemote.{GoesOver, Reaches}
use Rattle.remote_calls.proofs.LinkChoiceLemmas.{exchanged_over, no_link_cause}
use Rattle.remote_calls.proofs.LinkCountLemmas.{kept_counts, no_link_counts, send_counts}
use Rattle.remote_calls.proofs.http_remote.go_over.Goals as goal

-- ---- no link

pub returns-in-Err-clause-cause : goal.returns-in-Err-clause-cause
returns-in-Err-clause-cause g c = no_link_cause _ _ c.in-Err.fault c.in-Err.ensures.err

pub returns-in-Err-clause-faults : goal.returns-in-Err-clause-faults
returns-in-Err-clause-faults g c =
    let view = link_view g.D.L.Link.left g.D.L.Link.taken g.D.L.Link.given g.D.L.Link.asked g.D.L.Link.faults in
    no_link_counts Outcome g.D.Dial.faults g.D.L.Link.faults view _ c.ready_link.new.dial c.ready_link.new.kept c.in-Err.fault c.in-Err.ensures.none c.in-Err.ensures.faults

pub returns-in-Err-clause-value : goal.returns-in-Err-clause-value
returns-in-Err-clause-value g c = rw c.in-Err.ensures.none (GoesOver.unlinked c.in-Err.ensures.err)

-- ---- over a link

pub returns-clause-dialled : goal.returns-clause-dialled
returns-clause-dialled g c =
    subst (λ (d : g.row.D.Denot). DialsOnly c.args.host.now c.args.port (g.D.Dial.dialled c.args.dial.now) (g.D.Dial.dialled d)) (sym c.put_kept.ensures.stays) c.in-Ok.ensures.dialled

pub returns-clause-faults : goal.returns-clause-faults
returns-clause-faults g c =
    let view = link_view g.D.L.Link.left g.D.L.Link.taken g.D.L.Link.given g.D.L.Link.asked g.D.L.Link.faults in
    kept_counts g.D.Dial.faults view _ c.ready_link.new.dial c.put_kept.new.dial c.send_on-ending.new.chosen c.put_kept.new.kept c.send_on-ending.result c.put_kept.ensures.stays c.put_kept.ensures.after
    (send_counts _ (g.D.Dial.faults c.ready_link.new.dial) _ _ c.send_on-ending.result c.in-Ok.ensures.faults c.send_on-ending.ensures.faults)

pub returns-clause-value : goal.returns-clause-value
returns-clause-value g c =
    let view = link_view g.D.L.Link.left g.D.L.Link.taken g.D.L.Link.given g.D.L.Link.asked g.D.L.Link.faults in
    exchanged_over view g.D.Dial.back g.D.Dial.faults (λ link. Reaches view g.D.Dial.reaches link c.args.host.now c.args.port) c.args.order.now.what _ c.ready_link.new.dial c.put_kept.new.dial
    c.in-Ok.chosen c.send_on-ending.new.chosen c.put_kept.new.kept c.args.text.now c.send_on-ending.result c.put_kept.ensures.stays c.put_kept.ensures.after
    c.in-Ok.ensures.ok c.send_on-ending.ensures.value
