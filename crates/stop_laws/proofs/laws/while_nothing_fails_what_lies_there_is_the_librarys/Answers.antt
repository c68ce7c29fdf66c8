use Rattle.stop_laws.proofs.HistoryLemmas.{none_strays}
use Rattle.stop_laws.proofs.laws.while_nothing_fails_what_lies_there_is_the_librarys.Goals as goal

pub returns : goal.returns
returns g c = λ start changes now comes clean less stays.
    none_strays g.S.Shelf.contents g.S.Shelf.may_give g.S.Shelf.texts g.S.Shelf.faults start comes.ran.dones now comes.ran.runs changes comes.ran.are clean less stays
