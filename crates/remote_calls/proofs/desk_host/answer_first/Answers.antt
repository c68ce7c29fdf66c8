-- What is asked for lays nothing.
use Rattle.depot.proofs.GivingLemmas.{no_more}
use Rattle.remote_calls.proofs.desk_host.answer_first.Goals as goal

pub returns-then-eq-clause-here : goal.returns-then-eq-clause-here
returns-then-eq-clause-here g c = λ same. record {
  serves = c.get_first.ensures.serves;
  denied = c.get_first.ensures.denied;
  good = c.get_first.ensures.stands;
  gives = no_more _ c.get_first.ensures.gives;
}
