use Rattle.library_rules.proofs.FileLemmas.{keeps_between}
use Rattle.library_rules.proofs.laws.a_kept_commits_files_stay.Goals as goal

pub returns : goal.returns
returns c = keeps_between
