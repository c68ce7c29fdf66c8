use Rattle.http_client.proofs.RequestLemmas.{order_spelled}
use Rattle.http_client.proofs.laws.what_is_written_for_an_order_is_read_as_the_order.Goals as goal

pub returns : goal.returns
returns c = λ order host rest ends typed has within host_is. order_spelled order host rest ends typed has within host_is
