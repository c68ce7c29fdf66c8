use Rattle.depot.proofs.ShieldStepLemmas.{needs_pushed}
use Rattle.std.proofs.Common.{◌++◌, ◌∷◌, [], ap, ◌∙◌}
use Rattle.depot.proofs.shields.needed_by.Goals as goal

pub returns-in-Ok-push-clause-value : goal.returns-in-Ok-push-clause-value
returns-in-Ok-push-clause-value g c = λ objects all told with complete.
    needs_pushed objects all c.args.before c.args.commit.now c.args.root c.in-Ok.keys c.push.new.self (c.in-Ok.ensures.value objects all told with complete)
    (c.in-Ok-push.ensures.ok ∙ ap (λ key. c.in-Ok.keys ++ key ∷ []) c.commit_key.ensures.value)

pub returns-in-Err-clause-refused : goal.returns-in-Err-clause-refused
returns-in-Err-clause-refused g c = λ objects all told with complete. c.in-Err.ensures.cause objects all told with complete
