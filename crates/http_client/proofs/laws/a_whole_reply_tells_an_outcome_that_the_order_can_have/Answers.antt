use Rattle.http_client.specs.Response.{body_behind}
use Rattle.http_client.proofs.CanHaveLemmas.{outcome_can}
use Rattle.http_client.proofs.laws.a_whole_reply_tells_an_outcome_that_the_order_can_have.Goals as goal

pub returns : goal.returns
returns c = λ order buffer outcome used ends whole. outcome_can order whole.status whole.tag (body_behind buffer whole.head whole.size) outcome whole.outcome_is
