use Rattle.library_rules.proofs.JoinedLemmas.{answer_stands}
use Rattle.library_rules.proofs.laws.an_answer_goes_on_with_the_history.Goals as goal

pub returns : goal.returns
returns c = answer_stands
