use Rattle.std.proofs.Common.{not}
use Rattle.client_desk.specs.JobList.{is_of_folder}
use Rattle.client_desk.proofs.OrderLemmas.{without_some}
use Rattle.client_desk.proofs.laws.a_list_without_the_job_of_a_folder_can_stand_together.Goals as goal

pub returns : goal.returns
returns c = record { value = λ jobs dir are. without_some (λ job. not (is_of_folder dir job)) jobs are }
