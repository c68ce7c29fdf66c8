-- The outcome is that of the order, or the refusal for want of memory where its text was not written.
use Rattle.library_state.specs.declared.refusal.Refusal.TheVariants.{NoMemory}
use Rattle.http_front.specs.declared.outcome.Outcome.TheVariants.{Refused}
use Rattle.worker_server.proofs.CallLemmas.{Serves-refused_for_memory}
use Rattle.worker_server.proofs.answering.reply_to.Goals as goal

pub returns-in-Ok-clause-serves : goal.returns-in-Ok-clause-serves
returns-in-Ok-clause-serves g c =
    let served = c.outcome_of-outcome.ensures.serves in
    (c.outcome_of-outcome.result, served.0, served.1, c.in-Ok.ensures.value)

pub returns-in-Err-clause-serves : goal.returns-in-Err-clause-serves
returns-in-Err-clause-serves g c =
    let served = c.outcome_of-outcome.ensures.serves in
    (Refused NoMemory, served.0, Serves-refused_for_memory _ _ _ _ _ _ served.1, c.refusal_for_memory.ensures.value)
