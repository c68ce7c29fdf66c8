-- The order went over one link or none, or over two.
use Rattle.std.proofs.Common.{Ok, Err, option_map, refl}
use Rattle.http_front.specs.declared.outcome.Outcome.{Outcome}
use Rattle.remote_calls.specs.Exchange.{link_view, open_view}
use Rattle.remote_calls.specs.HttpRemote.{Tries}
use Rattle.remote_calls.proofs.DialledLemmas.{dialled_then}
use Rattle.remote_calls.proofs.LinkCountLemmas.{count_few}
use Rattle.remote_calls.proofs.SendsLemmas.{counts_again, counts_sent}
use Rattle.remote_calls.proofs.TryLemmas.{answered_once, given_again, never_kept}
use Rattle.remote_calls.proofs.http_remote.try_over.Goals as goal

-- ---- it has its outcome

pub returns-in-Ok-clause-faults : goal.returns-in-Ok-clause-faults
returns-in-Ok-clause-faults g c = counts_sent _ _ (Ok c.in-Ok.outcome) c.in-Ok.ensures.faults

pub returns-in-Ok-clause-value : goal.returns-in-Ok-clause-value
returns-in-Ok-clause-value g c = Tries.once c.in-Ok.ensures.value c.in-Ok.ensures.faults refl

-- ---- no link was kept

pub returns-then-not-was_open-clause-faults : goal.returns-then-not-was_open-clause-faults
returns-then-not-was_open-clause-faults g c = counts_sent {T = Outcome} _ _ (Err c.in-Err.fault) c.in-Err.ensures.faults

pub returns-then-not-was_open-clause-value : goal.returns-then-not-was_open-clause-value
returns-then-not-was_open-clause-value g c =
    let view = link_view g.D.L.Link.left g.D.L.Link.taken g.D.L.Link.given g.D.L.Link.asked g.D.L.Link.faults in
    Tries.once c.in-Err.ensures.value c.in-Err.ensures.faults (never_kept (option_map (open_view view) c.args.kept.now) (option_map (open_view view) c.go_over.new.kept) c.in-Err.fault c.is_open-was_open.result c.is_open-was_open.ensures.value c.if-not-was_open.true)

-- ---- a byte of the reply came

pub returns-then-not-is_unanswered-clause-faults : goal.returns-then-not-is_unanswered-clause-faults
returns-then-not-is_unanswered-clause-faults g c = counts_sent {T = Outcome} _ _ (Err c.in-Err.fault) c.in-Err.ensures.faults

pub returns-then-not-is_unanswered-clause-value : goal.returns-then-not-is_unanswered-clause-value
returns-then-not-is_unanswered-clause-value g c =
    let view = link_view g.D.L.Link.left g.D.L.Link.taken g.D.L.Link.given g.D.L.Link.asked g.D.L.Link.faults in
    Tries.once c.in-Err.ensures.value c.in-Err.ensures.faults
    (answered_once (option_map (open_view view) c.args.kept.now) (option_map (open_view view) c.go_over.new.kept) c.in-Err.fault c.is_unanswered.result c.is_unanswered.ensures.value c.if-not-is_unanswered.true)

-- ---- none came

pub returns-clause-dialled : goal.returns-clause-dialled
returns-clause-dialled g c =
    dialled_then c.args.host.now c.args.port (g.D.Dial.dialled c.args.dial.now) (g.D.Dial.dialled c.go_over.new.dial) (g.D.Dial.dialled c.go_over-2.new.dial)
    c.go_over.ensures.dialled c.go_over-2.ensures.dialled

pub returns-clause-faults : goal.returns-clause-faults
returns-clause-faults g c =
    counts_again Outcome _ _ _ c.in-Err.fault c.go_over-2.result (count_few _ _) c.in-Err.ensures.faults c.go_over-2.ensures.faults

pub returns-clause-value : goal.returns-clause-value
returns-clause-value g c =
    let view = link_view g.D.L.Link.left g.D.L.Link.taken g.D.L.Link.given g.D.L.Link.asked g.D.L.Link.faults in
    Tries.again _ c.in-Err.fault c.in-Err.ensures.value c.in-Err.ensures.faults
    (given_again (option_map (open_view view) c.args.kept.now) (option_map (open_view view) c.go_over.new.kept) c.in-Err.fault c.is_open-was_open.result c.is_unanswered.result c.is_open-was_open.ensures.value c.if-not-was_open.false
    c.is_unanswered.ensures.value c.if-not-is_unanswered.false)
    c.go_over-2.ensures.value c.go_over-2.ensures.faults
