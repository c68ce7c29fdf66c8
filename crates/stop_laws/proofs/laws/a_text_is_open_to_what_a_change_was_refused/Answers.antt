use Rattle.stop_laws.proofs.HistoryLemmas.{refused_at}
use Rattle.stop_laws.proofs.laws.a_text_is_open_to_what_a_change_was_refused.Goals as goal

pub returns : goal.returns
returns g c = λ start changes now comes next less opens.
    refused_at g.S.Shelf.contents g.S.Shelf.may_give g.S.Shelf.texts g.S.Shelf.faults start comes.ran.dones now comes.ran.runs changes comes.ran.are less next opens
