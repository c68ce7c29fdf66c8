use Rattle.std.proofs.Common.{None, refl}
use Rattle.tree_checkout.proofs.TouchLemmas.{touches_glances, touches_made}
use Rattle.tree_checkout.proofs.steps.make_dir.Goals as goal

pub returns-in-Err-clause-touches : goal.returns-in-Err-clause-touches
returns-in-Err-clause-touches g c = λ scan. touches_glances c.args.cuts scan _ _ c.in-Err.ensures.traced

pub returns-in-Ok-make_dir-clause-touches : goal.returns-in-Ok-make_dir-clause-touches
returns-in-Ok-make_dir-clause-touches g c = λ scan.
    touches_made c.args.cuts scan c.args.path.now None _ _ _ refl c.in-Ok.ensures.traced c.in-Ok-make_dir.ensures.traced

pub returns-in-Err-make_dir-clause-touches : goal.returns-in-Err-make_dir-clause-touches
returns-in-Err-make_dir-clause-touches g c = λ scan.
    touches_made c.args.cuts scan c.args.path.now None _ _ _ refl c.in-Ok.ensures.traced c.in-Err-make_dir.ensures.traced
