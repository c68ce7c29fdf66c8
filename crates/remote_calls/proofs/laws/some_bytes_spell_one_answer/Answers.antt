use Rattle.remote_calls.proofs.OneAnswerLemmas.{one_answer}
use Rattle.remote_calls.proofs.laws.some_bytes_spell_one_answer.Goals as goal

pub returns : goal.returns
returns c = λ what input first second x y is also. one_answer what input first second x y is also
