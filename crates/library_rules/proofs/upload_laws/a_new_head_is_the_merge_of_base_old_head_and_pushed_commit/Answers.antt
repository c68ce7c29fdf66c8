-- By what the answer tells of what was due.
use Rattle.library_rules.proofs.HeadTreeLemmas.{merged_head}
use Rattle.library_rules.proofs.upload_laws.a_new_head_is_the_merge_of_base_old_head_and_pushed_commit.Goals as goal

pub returns : goal.returns
returns c = merged_head
