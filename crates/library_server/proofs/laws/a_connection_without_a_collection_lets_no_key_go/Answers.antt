use Rattle.library_server.proofs.HallKeysLemmas.{no_key_left}
use Rattle.library_server.proofs.laws.a_connection_without_a_collection_lets_no_key_go.Goals as goal

pub returns : goal.returns
returns g c = λ clock depots afters before now status serves calls ran none library shown at.
    no_key_left g.S.Shelf.contents g.S.Shelf.may_give g.S.Shelf.texts g.S.Shelf.faults (g.C.Clock.shows clock) depots afters before now status serves calls ran none library shown at
