use Rattle.http_front.proofs.OrderLemmas.{order_once}
use Rattle.http_front.proofs.laws.a_request_asks_for_one_thing.Goals as goal

pub returns : goal.returns
returns c = order_once
