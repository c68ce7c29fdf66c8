use Rattle.http_front.proofs.UnfinishedLemmas.{limit_bound}
use Rattle.http_front.proofs.laws.no_body_is_longer_than_the_longest.Goals as goal

pub returns : goal.returns
returns c = limit_bound
