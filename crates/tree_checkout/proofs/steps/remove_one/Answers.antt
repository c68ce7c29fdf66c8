use Rattle.tree_checkout.proofs.TouchLemmas.{touches_glances, touches_removed}
use Rattle.tree_checkout.proofs.steps.remove_one.Goals as goal

pub returns-in-Err-clause-touches : goal.returns-in-Err-clause-touches
returns-in-Err-clause-touches g c = touches_glances c.args.cuts c.args.scan.now _ _ c.in-Err.ensures.traced

pub returns-in-Ok-remove-clause-touches : goal.returns-in-Ok-remove-clause-touches
returns-in-Ok-remove-clause-touches g c =
    touches_removed c.args.cuts c.args.scan.now c.args.path.now _ _ _ _ c.get.ensures.value c.in-Ok.ensures.traced c.in-Ok-remove.ensures.traced

pub returns-in-Err-remove-clause-touches : goal.returns-in-Err-remove-clause-touches
returns-in-Err-remove-clause-touches g c =
    touches_removed c.args.cuts c.args.scan.now c.args.path.now _ _ _ _ c.get.ensures.value c.in-Ok.ensures.traced c.in-Err-remove.ensures.traced
