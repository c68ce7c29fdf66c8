-- By the permits of the steps.
use Rattle.library_rules.proofs.EndsLemmas.{spared}
use Rattle.library_rules.proofs.upload_laws.nothing_needed_or_fresh_is_removed.Goals as goal

pub returns : goal.returns
returns c = spared
