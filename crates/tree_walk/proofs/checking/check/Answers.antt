use Rattle.tree_walk.proofs.CheckingLemmas.{commit_stops, commit_whole}
use Rattle.tree_walk.proofs.ReadsLemmas.{read_ok, told_after}
use Rattle.tree_walk.proofs.VisitLemmas.{commit_unread}
use Rattle.tree_walk.proofs.checking.check.Goals as goal

pub returns-in-Err-clause-value : goal.returns-in-Err-clause-value
returns-in-Err-clause-value g c = λ objects told. commit_unread objects c.args.commit c.in-Err.fault (c.in-Err.ensures.value objects told)

pub returns-in-Ok-check_directory-clause-value : goal.returns-in-Ok-check_directory-clause-value
returns-in-Ok-check_directory-clause-value g c = λ objects told. (
  commit_whole objects c.args.commit c.in-Ok.commit _ (read_ok objects _ _ (c.in-Ok.ensures.value objects told))
      (c.in-Ok-check_directory.ensures.value objects (told_after c.in-Ok.ensures.stays told)),
  tt,
)

pub returns-in-Err-check_directory-clause-value : goal.returns-in-Err-check_directory-clause-value
returns-in-Err-check_directory-clause-value g c = λ objects told.
    commit_stops objects c.args.commit c.in-Ok.commit c.in-Err-check_directory.fault (read_ok objects _ _ (c.in-Ok.ensures.value objects told))
    (c.in-Err-check_directory.ensures.value objects (told_after c.in-Ok.ensures.stays told))
