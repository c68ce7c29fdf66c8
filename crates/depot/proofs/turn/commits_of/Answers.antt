-- Two commits more.
use Rattle.std.proofs.Common.{ap, arith, ◌∙◌}
use Rattle.std.proofs.lemmas.List.{take_all}
use Rattle.library_rules.specs.LibraryState.{kept_commits}
use Rattle.depot.proofs.BeginTurnLemmas.{two_more}
use Rattle.depot.proofs.turn.commits_of.Goals as goal

pub loop-install-init : goal.loop-install-init
loop-install-init c = c.new-commits.ensures.value

pub loop-install-preserved : goal.loop-install-preserved
loop-install-preserved c =
    two_more c.args.kept.now c.loop-install.install-index c.install-item.result c.loop-install-test.true c.install-item.is c.loop-install.commits c.push.new.self c.push-in-loop-install.new.self c.loop-install.invariant
    c.in_ok-push.ensures.ok c.in_ok-push-2.ensures.ok

pub returns : goal.returns
returns c = record { value = c.loop-install.invariant ∙ ap kept_commits (take_all c.loop-install.install-index c.args.kept.now (omega arith)) }
