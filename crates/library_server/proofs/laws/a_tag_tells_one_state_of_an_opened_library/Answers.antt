use Rattle.library_server.proofs.CountingLemmas.{later_ran, look_same, tag_same}
use Rattle.library_server.proofs.laws.a_tag_tells_one_state_of_an_opened_library.Goals as goal

pub returns : goal.returns
returns g c = record {
  bound = λ clock old new calls bound ran. (later_ran g.S.Shelf.contents g.S.Shelf.may_give g.S.Shelf.texts g.S.Shelf.faults (g.C.Clock.shows clock) old calls new bound ran).grows;
  same = λ clock old new calls below ran. tag_same g.S.Shelf.contents g.S.Shelf.may_give g.S.Shelf.texts g.S.Shelf.faults (g.C.Clock.shows clock) old calls new below ran;
  told = λ clock old new calls lib secret bound ran. look_same g.S.Shelf.contents g.S.Shelf.may_give g.S.Shelf.texts g.S.Shelf.faults (g.C.Clock.shows clock) old calls new lib secret bound ran;
}
