use Rattle.http_front.proofs.CallLemmas.{names_a_call}
use Rattle.http_front.proofs.laws.a_request_names_a_call_of_the_table_alone.Goals as goal

pub returns : goal.returns
returns c = names_a_call
