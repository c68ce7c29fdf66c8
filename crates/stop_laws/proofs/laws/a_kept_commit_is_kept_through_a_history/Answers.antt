use Rattle.stop_laws.proofs.HistoryLemmas.{retains_all}
use Rattle.stop_laws.proofs.RunLemmas.{kept_run}
use Rattle.stop_laws.proofs.laws.a_kept_commit_is_kept_through_a_history.Goals as goal

pub returns : goal.returns
returns g c = λ start changes now comes commit less kept keep.
    kept_run g.S.Shelf.contents g.S.Shelf.may_give g.S.Shelf.texts g.S.Shelf.faults start comes.ran.dones now comes.ran.runs commit kept
    (retains_all g.S.Shelf.contents g.S.Shelf.may_give g.S.Shelf.texts g.S.Shelf.faults start comes.ran.dones now comes.ran.runs changes commit comes.ran.are less keep)
