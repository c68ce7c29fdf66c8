use Rattle.std.proofs.Common.{List, ◌++◌, ap, ◌∙◌}
use Rattle.ids.specs.declared.key.Key.{Key}
use Rattle.depot.specs.Shields.{plan_root, with_plan}
use Rattle.tree_walk.proofs.ReadsLemmas.{read_ok, told_after}
use Rattle.depot.proofs.ShieldLemmas.{plan_made}
use Rattle.depot.proofs.ShieldStepLemmas.{as_complete, lists_head, read_due}
use Rattle.depot.proofs.shields.needed_both.Goals as goal

pub returns-in-Err-clause-refused : goal.returns-in-Err-clause-refused
returns-in-Err-clause-refused g c = λ objects told root is complete.
    read_due objects (plan_root objects c.args.plan.now) root c.in-Err.fault is (c.in-Err.ensures.value objects told)

pub returns-in-Err-needed_by-clause-refused : goal.returns-in-Err-needed_by-clause-refused
returns-in-Err-needed_by-clause-refused g c = λ objects told root is complete.
    c.in-Err-needed_by.ensures.refused objects (with_plan objects c.args.plan.now) (told_after c.in-Ok.ensures.stays told) (plan_made objects c.args.plan.now)
    (as_complete objects c.args.plan.now c.args.older root c.in-Ok.root is (read_ok objects _ _ (c.in-Ok.ensures.value objects told)) complete)

pub returns-in-Ok-push_all-clause-value : goal.returns-in-Ok-push_all-clause-value
returns-in-Ok-push_all-clause-value g c = λ objects told root is complete.
    let reads = read_ok objects _ _ (c.in-Ok.ensures.value objects told) in
    lists_head objects c.args.plan.now c.args.older root c.in-Ok.root c.args.keys c.in-Ok-needed_by.more c.push_all.new.keys is reads
    (c.in-Ok-push_all.ensures.value ∙ ap (λ (more : List Key). c.args.keys ++ more) c.slice.ensures.value)
    (c.in-Ok-needed_by.ensures.value objects (with_plan objects c.args.plan.now) (told_after c.in-Ok.ensures.stays told) (plan_made objects c.args.plan.now)
    (as_complete objects c.args.plan.now c.args.older root c.in-Ok.root is reads complete))
