-- By what the answer tells of what was due.
use Rattle.library_rules.proofs.UploadCauseLemmas.{has_cause}
use Rattle.library_rules.proofs.upload_laws.a_stale_or_incomplete_update_has_its_cause.Goals as goal

pub returns : goal.returns
returns c = has_cause
