use Rattle.library_server.proofs.SparedLemmas.{spared}
use Rattle.library_server.proofs.laws.what_is_too_much_for_one_reply_is_not_read.Goals as goal

pub returns : goal.returns
returns g c = λ clock old new lib secret ids outcome operations served much.
    spared g.S.Shelf.contents g.S.Shelf.may_give g.S.Shelf.texts g.S.Shelf.faults (g.C.Clock.shows clock) old new lib secret ids outcome operations served much
