-- One commit more waits.
use Rattle.std.proofs.Common.{ap, arith, ◌∙◌}
use Rattle.object_graph.specs.Objects.{commit_key}
use Rattle.collector.proofs.WorklistLemmas.{waits_all, waits_next}
use Rattle.collector.specs.Worklist.{WorklistView, with_met}
use Rattle.collector.proofs.marks.waiting.Goals as goal

pub loop-commit-preserved : goal.loop-commit-preserved
loop-commit-preserved c =
    c.in_ok-meet.ensures.ok ∙ ap (λ (work : WorklistView). with_met work (commit_key c.commit-item.result)) c.loop-commit.invariant
    ∙ waits_next c.args.commits.now c.loop-commit.commit-index c.commit-item.result c.loop-commit-test.true c.commit-item.is

pub loop-commit-init : goal.loop-commit-init
loop-commit-init c = c.in_ok-work.ensures.value

pub returns : goal.returns
returns c = record { value = c.loop-commit.invariant ∙ waits_all c.args.commits.now c.loop-commit.commit-index (omega arith) }
