-- The head is stored, or it is what the plan makes.
use Rattle.std.proofs.Common.{ap, length, option_map, sym, ◌∙◌}
use Rattle.std.specs.FinMap as map
use Rattle.ids.specs.declared.key.Key.{Key}
use Rattle.depot.proofs.ShieldStepLemmas.{reads_made, stored_read}
use Rattle.depot.proofs.shields.head_root.Goals as goal

pub returns-in-Some-clause-value : goal.returns-in-Some-clause-value
returns-in-Some-clause-value g c = λ objects told.
    stored_read objects c.args.plan.now c.in-Some.field-0 c.stored_root.result
    (c.in-Some.ensures.found objects told ∙ ap (λ (key : Key). option_map length (map.get objects key)) c.commit_key.ensures.value) (c.stored_root.ensures.value objects told)

pub returns-in-None-clause-value : goal.returns-in-None-clause-value
returns-in-None-clause-value g c = λ objects told.
    c.made_root.ensures.value objects (c.in-None.ensures.found objects told ∙ ap (λ (key : Key). option_map length (map.get objects key)) c.commit_key.ensures.value)

pub returns-in-None-clause-stays : goal.returns-in-None-clause-stays
returns-in-None-clause-stays g c =
    reads_made c.args.store.now c.args.plan.now.head c.made_root.result
    (sym (c.in-None.ensures.value ∙ ap (λ (key : Key). map.get c.args.store.now.index key) c.commit_key.ensures.value)) c.made_root.ensures.free
