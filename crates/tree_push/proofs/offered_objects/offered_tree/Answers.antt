-- The objects of the entries that are offered.
use Rattle.std.proofs.Common.{◌∙◌, sym}
use Rattle.tree_push.proofs.OfferedEntryLemmas.{if_ok, seen_zeros, sound_offered}
use Rattle.tree_push.proofs.offered_objects.offered_tree.Goals as goal

pub returns-in-Ok-clause-value : goal.returns-in-Ok-clause-value
returns-in-Ok-clause-value c =
    if_ok _ _ c.build.result
    (λ built gives folder objects keeps path.
    sym (gives (sound_offered c.args.moment c.args.user.now c.args.knowns.now c.args.paths.now c.in-Ok.entries c.in-Ok.ensures.value folder) objects keeps path) ∙ c.in-Ok.ensures.value path)
    c.build.ensures.value

pub returns-in-Ok-clause-needed : goal.returns-in-Ok-clause-needed
returns-in-Ok-clause-needed c =
    if_ok _ _ c.build.result
    (λ built gives folder id made objects keeps.
    gives (sound_offered c.args.moment c.args.user.now c.args.knowns.now c.args.paths.now c.in-Ok.entries c.in-Ok.ensures.value folder) id made objects keeps)
    c.build.ensures.needed

pub returns-in-Ok-clause-dirs : goal.returns-in-Ok-clause-dirs
returns-in-Ok-clause-dirs c =
    if_ok _ _ c.build.result
    (λ built gives folder.
    let are = gives (sound_offered c.args.moment c.args.user.now c.args.knowns.now c.args.paths.now c.in-Ok.entries c.in-Ok.ensures.value folder) in
    (c.in-Ok.entries, c.in-Ok.ensures.value, are.0, are.1))
    c.build.ensures.dirs

pub returns-in-Ok-clause-zeros : goal.returns-in-Ok-clause-zeros
returns-in-Ok-clause-zeros c =
    if_ok _ _ c.build.result
    (λ built gives folder.
    seen_zeros c.args.moment c.args.user.now c.args.knowns.now c.args.paths.now c.in-Ok.entries c.in-Ok.ensures.value built.root
    (gives (sound_offered c.args.moment c.args.user.now c.args.knowns.now c.args.paths.now c.in-Ok.entries c.in-Ok.ensures.value folder)))
    c.build.ensures.zeros

pub returns-in-Ok-clause-taken : goal.returns-in-Ok-clause-taken
returns-in-Ok-clause-taken c = λ id is folder. (
  c.in-Ok.entries,
  c.in-Ok.ensures.value,
  c.build.ensures.taken id is (sound_offered c.args.moment c.args.user.now c.args.knowns.now c.args.paths.now c.in-Ok.entries c.in-Ok.ensures.value folder),
)

pub returns-in-Err-clause-taken : goal.returns-in-Err-clause-taken
returns-in-Err-clause-taken c = λ id is folder. absurd (cc)
