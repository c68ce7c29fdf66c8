use Rattle.http_front.proofs.CallLemmas.{named_by_path}
use Rattle.http_front.proofs.laws.a_request_names_a_call_by_its_method_and_path.Goals as goal

pub returns : goal.returns
returns c = named_by_path
