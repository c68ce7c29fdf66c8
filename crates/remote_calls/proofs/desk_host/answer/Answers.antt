-- The library replies by all that it promises of an answer.
use Rattle.remote_calls.proofs.desk_host.answer.Goals as goal

pub returns-clause-here : goal.returns-clause-here
returns-clause-here g c = λ same. record {
  serves = c.answer_own.ensures.serves;
  denied = c.answer_own.ensures.denied;
  good = c.answer_own.ensures.stands;
  gives = c.answer_own.ensures.gives;
}
