use Rattle.http_front.proofs.CallQueryLemmas.{limit_asked}
use Rattle.http_front.proofs.laws.a_limit_is_asked_for_by_its_own_query.Goals as goal

pub returns : goal.returns
returns c = limit_asked
