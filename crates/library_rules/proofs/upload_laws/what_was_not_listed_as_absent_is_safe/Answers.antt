-- By what the answer tells of what was due.
use Rattle.library_rules.proofs.UploadToldLemmas.{asked_is_safe}
use Rattle.library_rules.proofs.upload_laws.what_was_not_listed_as_absent_is_safe.Goals as goal

pub returns : goal.returns
returns c = asked_is_safe
