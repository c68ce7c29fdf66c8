use Rattle.http_client.proofs.response.next_response.Goals as goal

pub returns-in-None : goal.returns-in-None
returns-in-None c = record { value = c.without_head.ensures.value c.args.order.now.what }
