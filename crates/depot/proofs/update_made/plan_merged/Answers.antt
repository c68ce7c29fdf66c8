-- The directories are under their own names, and the commit under its id, which isn't forty zeros.
use Rattle.depot.proofs.UpdateMadeLemmas.{plan_named, text_named}
use Rattle.depot.proofs.update_made.plan_merged.Goals as goal

pub returns-in-Ok-true-clause-named : goal.returns-in-Ok-true-clause-named
returns-in-Ok-true-clause-named g c = plan_named c.args.merged.made c.in-Ok.commit.id c.requires.own_names

pub returns-in-Ok-false-clause-named : goal.returns-in-Ok-false-clause-named
returns-in-Ok-false-clause-named g c = text_named c.args.merged.made c.in-Ok.commit c.in-Ok-write.text c.requires.own_names c.in-Ok-false.ensures.not_zeros c.in-Ok-write.ensures.value
