use Rattle.hall_server.proofs.SpentLemmas.{spent_ran, stay_ran, taken_all, taken_within}
use Rattle.hall_server.proofs.laws.spent_is_told_only_of_a_lock_that_is_spent.Goals as goal

pub returns : goal.returns
returns g c = record {
  stays = λ clock old new calls ran. stay_ran g.S.Shelf.contents g.S.Shelf.may_give g.S.Shelf.texts g.S.Shelf.faults (g.C.Clock.shows clock) old calls new ran;
  told = λ clock old new calls ran. spent_ran g.S.Shelf.contents g.S.Shelf.may_give g.S.Shelf.texts g.S.Shelf.faults (g.C.Clock.shows clock) old calls new ran;
  taken = λ clock old new calls ran within. taken_all new new.libraries calls (taken_within new within) (spent_ran g.S.Shelf.contents g.S.Shelf.may_give g.S.Shelf.texts g.S.Shelf.faults (g.C.Clock.shows clock) old calls new ran);
}
