-- By what the answer tells of what was due.
use Rattle.library_rules.proofs.UploadToldLemmas.{put_is_safe}
use Rattle.library_rules.proofs.upload_laws.what_was_answered_as_stored_is_safe.Goals as goal

pub returns : goal.returns
returns c = put_is_safe
