-- The head is of the directories, or the text that is made, or nowhere.
use Rattle.std.proofs.Common.{Err, None, Some, ap, refl, ◌∙◌}
use Rattle.std.specs.FinMap as map
use Rattle.ids.specs.declared.key.Key.{Key}
use Rattle.tree_walk.specs.declared.fault.WalkFault.TheVariants as walk
use Rattle.depot.proofs.ShieldStepLemmas.{all_lack, made_by_text, made_read}
use Rattle.depot.proofs.shields.made_root.Goals as goal

pub returns-in-Some-clause-value : goal.returns-in-Some-clause-value
returns-in-Some-clause-value c = λ objects gone.
    made_read objects c.args.plan.now (Some c.in-Some.bytes.now) c.root_of.result gone
    (c.in-Some.ensures.value ∙ ap (λ (key : Key). map.get c.args.plan.now.dirs key) c.commit_key-key.ensures.value) (c.root_of.ensures.value objects)

pub returns-in-Some-clause-free : goal.returns-in-Some-clause-free
returns-in-Some-clause-free c = all_lack c.args.plan.now.head c.root_of.result c.root_of.ensures.free

pub returns-in-Some-text-clause-value : goal.returns-in-Some-text-clause-value
returns-in-Some-text-clause-value c = λ objects gone.
    made_by_text objects c.args.plan.now (Some c.in-Some-text.text) c.root_of-in-Some-text.result gone
    (c.in_default.ensures.value ∙ ap (λ (key : Key). map.get c.args.plan.now.dirs key) c.commit_key-key.ensures.value) c.in-Some-text.is (c.root_of-in-Some-text.ensures.value objects)

pub returns-in-Some-text-clause-free : goal.returns-in-Some-text-clause-free
returns-in-Some-text-clause-free c = all_lack c.args.plan.now.head c.root_of-in-Some-text.result c.root_of-in-Some-text.ensures.free

pub returns-in-None-clause-value : goal.returns-in-None-clause-value
returns-in-None-clause-value c = λ objects gone.
    made_by_text objects c.args.plan.now None (Err (walk.Incomplete c.commit_key-key.result)) gone
    (c.in_default.ensures.value ∙ ap (λ (key : Key). map.get c.args.plan.now.dirs key) c.commit_key-key.ensures.value) c.in-None.is
    (rw c.commit_key-key.ensures.value refl)
