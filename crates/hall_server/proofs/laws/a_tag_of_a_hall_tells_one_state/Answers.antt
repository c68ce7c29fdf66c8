use Rattle.hall_server.proofs.TagLemmas.{one_state, tags_ran}
use Rattle.hall_server.proofs.laws.a_tag_of_a_hall_tells_one_state.Goals as goal

pub returns : goal.returns
returns g c = record {
  told = λ clock old new calls ran. tags_ran g.S.Shelf.contents g.S.Shelf.may_give g.S.Shelf.texts g.S.Shelf.faults (g.C.Clock.shows clock) old calls new ran;
  same = λ vs library c d m n p q a b places. one_state g.S.Shelf.contents g.S.Shelf.may_give g.S.Shelf.texts g.S.Shelf.faults vs library c d m n p q a b places;
}
