use Rattle.stop_laws.proofs.RunLemmas.{stood}
use Rattle.stop_laws.proofs.laws.after_a_history_the_shelf_stands_for_the_library_or_for_what_was_refused.Goals as goal

pub returns : goal.returns
returns g c = λ start changes now comes first held t good settled there left told.
    stood g.S.Shelf.contents g.S.Shelf.may_give g.S.Shelf.texts g.S.Shelf.faults start comes.ran.dones now comes.ran.runs first held t good settled there left told
