use Rattle.http_front.proofs.CallLemmas.{path_names}
use Rattle.http_front.proofs.laws.a_call_is_named_by_its_own_method_and_path.Goals as goal

pub returns : goal.returns
returns c = path_names
