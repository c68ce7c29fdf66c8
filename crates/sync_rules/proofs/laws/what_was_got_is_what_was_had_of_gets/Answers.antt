use Rattle.sync_rules.proofs.GotLemmas.{got_has}
use Rattle.sync_rules.proofs.laws.what_was_got_is_what_was_had_of_gets.Goals as goal

pub returns : goal.returns
returns c = λ objects sends had gets is has. got_has objects sends had gets is has
