-- What a library answers to an order, the order can have.
use Rattle.remote_calls.specs.DeskRemote.{IsAt, desk_rules, faults_of, gives_told, texts_of, told_contents}
use Rattle.remote_calls.proofs.DeskOutcomeLemmas.{desk_collects, desk_replies, order_can}
use Rattle.remote_calls.proofs.desk_remote.answer_at.Goals as goal

pub returns-clause-told : goal.returns-clause-told
returns-clause-told c =
    let served = c.answer_order.ensures.serves in
    order_can (desk_rules c.args.moment)
    (λ w u lib call answer lines v asked of_it is. desk_replies told_contents gives_told texts_of faults_of w u lib call is.0 answer lines v asked of_it is.2)
    (λ u lib secret ends lines v is. desk_collects told_contents gives_told texts_of faults_of (IsAt c.args.moment) u lib secret ends lines v is)
    c.args.order c.args.depot.now c.answer_order.result served.0 c.answer_order.new.pass c.requires.proper served.1
