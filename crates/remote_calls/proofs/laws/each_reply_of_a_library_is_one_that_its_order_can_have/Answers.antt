use Rattle.remote_calls.proofs.OrderReplyLemmas.{may_reply}
use Rattle.remote_calls.proofs.laws.each_reply_of_a_library_is_one_that_its_order_can_have.Goals as goal

pub returns : goal.returns
returns g c = λ what shelf index state call reply asked of_it is. may_reply index (g.S.Shelf.may_give shelf) state what call reply asked of_it is
