use Rattle.http_client.proofs.EndingReplyLemmas.{ending_none}
use Rattle.http_client.proofs.laws.a_reply_that_ends_a_connection_is_none_to_an_order.Goals as goal

pub returns : goal.returns
returns c = λ order status rest. ending_none order status rest
