-- What is needed stays needed, what is fresh stays fresh, and neither leaves.
use Rattle.library_rules.proofs.UploadSafeLemmas.{stays_safe}
use Rattle.library_rules.proofs.upload_laws.every_step_but_a_begin_keeps_a_safe_key_safe.Goals as goal

pub returns : goal.returns
returns c = stays_safe
