-- What the pushed commit needs beside the head before, and with it what another head needs.
use Rattle.std.proofs.Common.{rules}
use Rattle.tree_walk.proofs.ReadsLemmas.{read_ok, told_after}
use Rattle.depot.proofs.ShieldLemmas.{none_made}
use Rattle.depot.proofs.ShieldStepLemmas.{complete_roots, if_ok, needed_one, needed_two, root_due, root_there}
use Rattle.depot.specs.Shields.{with_plan}
use Rattle.depot.proofs.shields.needed_keys.Goals as goal

pub returns-in-Err-clause-refused : goal.returns-in-Err-clause-refused
returns-in-Err-clause-refused g c = λ objects told whole. root_due objects objects c.args.before c.in-Err.fault whole.older (c.in-Err.ensures.value objects told)

pub returns-in-Err-stored_root-clause-refused : goal.returns-in-Err-stored_root-clause-refused
returns-in-Err-stored_root-clause-refused g c = λ objects told whole.
    root_due objects objects c.args.pushed c.in-Err-stored_root.fault whole.pushed_one (c.in-Err-stored_root.ensures.value objects (told_after c.in-Ok.ensures.stays told))

pub returns-in-Err-needed_by-clause-refused : goal.returns-in-Err-needed_by-clause-refused
returns-in-Err-needed_by-clause-refused g c = λ objects told whole.
    let first = told_after c.in-Ok.ensures.stays told in
    let second = told_after c.in-Ok-stored_root.ensures.stays first in
    c.in-Err-needed_by.ensures.refused objects objects second (none_made objects c.new-none.result c.new-none.ensures.value)
    (complete_roots objects objects c.args.before c.args.pushed c.in-Ok.older c.in-Ok-stored_root.root whole.older whole.pushed_one (read_ok objects _ _ (c.in-Ok.ensures.value objects told))
    (read_ok objects _ _ (c.in-Ok-stored_root.ensures.value objects first)))

-- the pushed commit is the head
pub returns-then-eq-clause-value : goal.returns-then-eq-clause-value
returns-then-eq-clause-value g c = λ objects told whole.
    let first = told_after c.in-Ok.ensures.stays told in
    let second = told_after c.in-Ok-stored_root.ensures.stays first in
    let older = read_ok objects _ _ (c.in-Ok.ensures.value objects told) in
    let root = read_ok objects _ _ (c.in-Ok-stored_root.ensures.value objects first) in
    needed_one objects c.args.before c.args.plan.now c.args.pushed c.in-Ok.older c.in-Ok-stored_root.root c.in-Ok-needed_by.keys whole older root
    (c.in-Ok-needed_by.ensures.value objects objects second (none_made objects c.new-none.result c.new-none.ensures.value)
    (complete_roots objects objects c.args.before c.args.pushed c.in-Ok.older c.in-Ok-stored_root.root whole.older whole.pushed_one older root))
    (search rules)

-- another one
pub returns-clause-value : goal.returns-clause-value
returns-clause-value g c = λ objects told whole.
    let first = told_after c.in-Ok.ensures.stays told in
    let second = told_after c.in-Ok-stored_root.ensures.stays first in
    let third = told_after c.in-Ok-needed_by.ensures.stays second in
    let older = read_ok objects _ _ (c.in-Ok.ensures.value objects told) in
    let root = read_ok objects _ _ (c.in-Ok-stored_root.ensures.value objects first) in
    let head = root_there (with_plan objects c.args.plan.now) c.args.plan.now.head whole.head in
    if_ok c.needed_both.result
    (λ all both.
    needed_two objects c.args.before c.args.plan.now c.args.pushed c.in-Ok.older c.in-Ok-stored_root.root c.in-Ok-needed_by.keys whole older root
    (c.in-Ok-needed_by.ensures.value objects objects second (none_made objects c.new-none.result c.new-none.ensures.value)
    (complete_roots objects objects c.args.before c.args.pushed c.in-Ok.older c.in-Ok-stored_root.root whole.older whole.pushed_one older root))
    head.0 all head.1 both)
    (c.needed_both.ensures.value objects third head.0 head.1
    (complete_roots objects (with_plan objects c.args.plan.now) c.args.before c.args.plan.now.head c.in-Ok.older head.0 whole.older whole.head older head.1))

pub returns-clause-refused : goal.returns-clause-refused
returns-clause-refused g c = λ objects told whole.
    let first = told_after c.in-Ok.ensures.stays told in
    let second = told_after c.in-Ok-stored_root.ensures.stays first in
    let third = told_after c.in-Ok-needed_by.ensures.stays second in
    let older = read_ok objects _ _ (c.in-Ok.ensures.value objects told) in
    let head = root_there (with_plan objects c.args.plan.now) c.args.plan.now.head whole.head in
    c.needed_both.ensures.refused objects third head.0 head.1
    (complete_roots objects (with_plan objects c.args.plan.now) c.args.before c.args.plan.now.head c.in-Ok.older head.0 whole.older whole.head older head.1)
