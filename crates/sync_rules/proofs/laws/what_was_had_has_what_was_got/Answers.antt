use Rattle.sync_rules.proofs.GotLemmas.{has_got}
use Rattle.sync_rules.proofs.laws.what_was_had_has_what_was_got.Goals as goal

pub returns : goal.returns
returns c = λ objects sends had is has. has_got objects sends had is has
