use Rattle.library_rules.proofs.RefusedLemmas.{refused_stays}
use Rattle.library_rules.proofs.laws.a_refused_call_changes_nothing_but_what_it_stored.Goals as goal

pub returns : goal.returns
returns c = refused_stays
