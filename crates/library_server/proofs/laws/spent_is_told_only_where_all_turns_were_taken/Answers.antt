use Rattle.hall_server.specs.Serving.{hall_shown}
use Rattle.hall_server.proofs.SpentLemmas.{spent_ran, taken_all, taken_within}
use Rattle.library_server.proofs.SpentTurnsLemmas.{taken_at_port, turns_of_port}
use Rattle.library_server.proofs.laws.spent_is_told_only_where_all_turns_were_taken.Goals as goal

pub returns : goal.returns
returns g c = record {
  hall = λ clock depots afters before now status serves calls ran.
      taken_all serves.last serves.last.libraries calls (taken_within serves.last serves.within)
      (spent_ran g.S.Shelf.contents g.S.Shelf.may_give g.S.Shelf.texts g.S.Shelf.faults (g.C.Clock.shows clock) (hall_shown serves.pass) calls serves.last ran);
  port = λ clock depots afters ears ends told serves i p e w below.
      taken_at_port g.S.Shelf.contents g.S.Shelf.may_give g.S.Shelf.texts g.S.Shelf.faults _ (g.C.Clock.shows clock) depots afters ears ends told serves i p e w below;
  turns = λ clock depots afters ears ends told serves library u at.
      turns_of_port g.S.Shelf.contents g.S.Shelf.may_give g.S.Shelf.texts g.S.Shelf.faults _ (g.C.Clock.shows clock) depots afters ears ends told serves library u at;
}
