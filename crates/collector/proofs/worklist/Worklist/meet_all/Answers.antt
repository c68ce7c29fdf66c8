-- One key more is met.
use Rattle.std.proofs.Common.{ap, arith, ◌∙◌, subst, sym}
use Rattle.collector.proofs.WorklistLemmas.{met_all, met_next, met_none, met_part, on_error}
use Rattle.collector.specs.Worklist.{MeetsFront, WorklistView, with_met}
use Rattle.collector.proofs.worklist.Worklist.meet_all.Goals as goal

pub loop-key-init : goal.loop-key-init
loop-key-init c = met_none c.args.self.now

pub loop-key-preserved : goal.loop-key-preserved
loop-key-preserved c =
    c.in_ok-meet.ensures.ok ∙ ap (λ (work : WorklistView). with_met work c.key-item.result) c.loop-key.invariant
    ∙ met_next c.args.self.now c.args.keys.now c.loop-key.key-index c.key-item.result c.loop-key-test.true c.key-item.is

pub returns-clause-ok : goal.returns-clause-ok
returns-clause-ok c = c.loop-key.invariant ∙ met_all c.args.self.now c.args.keys.now c.loop-key.key-index (omega arith)

pub returns-in_err-meet-clause-err : goal.returns-in_err-meet-clause-err
returns-in_err-meet-clause-err c =
    on_error (MeetsFront c.args.keys.now c.args.self.now c.meet.new.self) c.from_residual.result
    (subst (λ (work : WorklistView). MeetsFront c.args.keys.now c.args.self.now work) (sym (c.in_err-meet.ensures.err ∙ c.loop-key.invariant))
    (met_part c.args.self.now c.args.keys.now c.loop-key.key-index))
