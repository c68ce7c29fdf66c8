-- Neither comes of a fault, and nothing is missing on the way.
use Rattle.library_rules.proofs.UploadLateLemmas.{not_late}
use Rattle.library_rules.proofs.upload_laws.an_update_whose_keys_are_safe_is_neither_stale_nor_incomplete.Goals as goal

pub returns : goal.returns
returns c = not_late
