use Rattle.http_front.proofs.CallQueryLemmas.{update_asked}
use Rattle.http_front.proofs.laws.an_update_is_asked_for_by_its_own_query.Goals as goal

pub returns : goal.returns
returns c = update_asked
