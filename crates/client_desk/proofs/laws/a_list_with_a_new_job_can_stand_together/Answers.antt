use Rattle.client_desk.proofs.OrderLemmas.{with_new}
use Rattle.client_desk.proofs.laws.a_list_with_a_new_job_can_stand_together.Goals as goal

pub returns : goal.returns
returns c = record { value = λ jobs new are is due. with_new jobs new are is due }
