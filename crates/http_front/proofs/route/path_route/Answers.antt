use Rattle.std.proofs.Common.{sym, refl}
use Rattle.http_front.proofs.TargetLemmas.{no_slash}
use Rattle.http_front.proofs.RouteLemmas.{none_anyway}
use Rattle.http_front.proofs.route.path_route.Goals as goal

pub returns-in-None : goal.returns-in-None
returns-in-None c = rw (no_slash c.args.path.now c.in-None.ensures.cases) (sym (none_anyway _ _ refl))
