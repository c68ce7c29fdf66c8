use Rattle.hall_server.proofs.CauseLemmas.{caused_ran}
use Rattle.hall_server.proofs.laws.damage_on_a_connection_has_its_cause.Goals as goal

pub returns : goal.returns
returns g c = λ clock old new calls ran. caused_ran g.S.Shelf.contents g.S.Shelf.may_give g.S.Shelf.texts g.S.Shelf.faults (g.C.Clock.shows clock) old calls new ran
