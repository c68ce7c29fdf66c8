-- By the permit of an end.
use Rattle.library_rules.proofs.EndsLemmas.{clean_at_end}
use Rattle.library_rules.proofs.upload_laws.as_a_collection_ends_what_is_stored_is_needed_or_fresh.Goals as goal

pub returns : goal.returns
returns c = clean_at_end
