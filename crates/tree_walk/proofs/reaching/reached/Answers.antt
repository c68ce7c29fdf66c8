-- What was reached from the root, behind the commit, is all that is visited.
use Rattle.std.proofs.Common.{ap, ◌∙◌, subst}
use Rattle.tree_walk.specs.Reading.{IsDue}
use Rattle.tree_walk.specs.Visits.{with_key_met}
use Rattle.tree_walk.proofs.ReachingLemmas.{all_reached, commit_stops}
use Rattle.tree_walk.proofs.ReadsLemmas.{read_ok, told_after}
use Rattle.tree_walk.proofs.VisitLemmas.{commit_unread}
use Rattle.tree_walk.proofs.reaching.reached.Goals as goal

pub returns-in-Err-clause-value : goal.returns-in-Err-clause-value
returns-in-Err-clause-value g c = λ objects told complete.
    subst (λ due. IsDue objects due c.in-Err.fault) complete (commit_unread objects c.args.commit c.in-Err.fault (c.in-Err.ensures.value objects told))

pub returns-in-Ok-reach_directory-clause-value : goal.returns-in-Ok-reach_directory-clause-value
returns-in-Ok-reach_directory-clause-value g c = λ objects told complete.
    all_reached c.args.blocks objects c.args.commit c.in-Ok.commit c.new.result c.in_ok-met.met c.in-Ok-reach_directory.met c.into_keys.result complete
    (read_ok objects _ _ (c.in-Ok.ensures.value objects told)) c.new.ensures.value
    (c.in_ok-met.ensures.value ∙ ap (λ k. with_key_met k c.new.result) c.commit_key.ensures.value)
    (c.in-Ok-reach_directory.ensures.value objects (told_after c.in-Ok.ensures.stays told))
    c.into_keys.ensures.value c.into_keys.ensures.once

pub returns-in-Err-reach_directory-clause-value : goal.returns-in-Err-reach_directory-clause-value
returns-in-Err-reach_directory-clause-value g c = λ objects told complete.
    commit_stops c.args.blocks objects c.args.commit c.in-Ok.commit c.new.result c.in_ok-met.met c.in-Err-reach_directory.fault complete
    (read_ok objects _ _ (c.in-Ok.ensures.value objects told)) c.new.ensures.value
    (c.in_ok-met.ensures.value ∙ ap (λ k. with_key_met k c.new.result) c.commit_key.ensures.value)
    (c.in-Err-reach_directory.ensures.value objects (told_after c.in-Ok.ensures.stays told))
