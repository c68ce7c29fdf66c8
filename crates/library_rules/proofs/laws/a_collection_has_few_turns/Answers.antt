use Rattle.library_rules.proofs.FewTurnLemmas.{few_after}
use Rattle.library_rules.proofs.laws.a_collection_has_few_turns.Goals as goal

pub returns : goal.returns
returns c = few_after
