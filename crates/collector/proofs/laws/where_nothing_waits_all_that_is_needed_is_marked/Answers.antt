use Rattle.collector.proofs.LeadingLemmas.{all_marked}
use Rattle.collector.proofs.laws.where_nothing_waits_all_that_is_needed_is_marked.Goals as goal

pub returns : goal.returns
returns c = λ objects marks leads none key needed. all_marked objects marks leads none key needed
