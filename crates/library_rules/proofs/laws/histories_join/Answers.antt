use Rattle.library_rules.proofs.JoinedLemmas.{stands_join}
use Rattle.library_rules.proofs.laws.histories_join.Goals as goal

pub returns : goal.returns
returns c = stands_join
