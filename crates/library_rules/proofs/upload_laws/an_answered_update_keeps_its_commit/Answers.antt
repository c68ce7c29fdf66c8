-- By the head update that it adds, unless the commit was kept.
use Rattle.library_rules.proofs.RetriedLemmas.{update_kept}
use Rattle.library_rules.proofs.upload_laws.an_answered_update_keeps_its_commit.Goals as goal

pub returns : goal.returns
returns c = update_kept
