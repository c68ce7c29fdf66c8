use Rattle.stop_laws.proofs.HistoryLemmas.{kept_behind}
use Rattle.stop_laws.proofs.laws.a_commit_that_a_change_kept_stays_kept.Goals as goal

pub returns : goal.returns
returns g c = λ start changes now comes before change later commit less cut settled kept keep.
    kept_behind g.S.Shelf.contents g.S.Shelf.may_give g.S.Shelf.texts g.S.Shelf.faults start comes.ran.dones now comes.ran.runs changes comes.ran.are less before change later commit cut settled kept keep
