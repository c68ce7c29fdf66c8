-- With no token there is no value.
use Rattle.json_tokens.proofs.FrontLemmas.{NoFront-end}
use Rattle.json_tokens.proofs.kept.emptied_value.Goals as goal

pub returns-in-None-clause-err : goal.returns-in-None-clause-err
returns-in-None-clause-err c = rw c.in-None.ensures.value.0 (NoFront-end c.args.depth)
