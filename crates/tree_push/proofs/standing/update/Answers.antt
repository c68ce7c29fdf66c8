-- The library stands at the commit, or it came too late.
use Rattle.tree_push.proofs.StandingLemmas.{take_told, update_failed}
use Rattle.tree_push.proofs.standing.update.Goals as goal

pub returns-in-Ok-clause-value : goal.returns-in-Ok-clause-value
returns-in-Ok-clause-value g c = take_told c.args.library.now c.args.id _ _ c.in-Ok.reply c.taken.result c.in-Ok.ensures.value c.taken.ensures.value

pub returns-in-Err-clause-value : goal.returns-in-Err-clause-value
returns-in-Err-clause-value g c = update_failed c.args.library.now c.args.id _ _ c.in-Err.fault c.in-Err.ensures.value
