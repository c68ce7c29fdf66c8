-- A turn that changed the library is counted.
use Rattle.library_server.proofs.CountingLemmas.{counted}
use Rattle.library_server.proofs.counting.take_turn.Goals as goal

pub returns : goal.returns
returns g c = record {
  turned = c.tell_turn-turn.ensures.turned;
  count = counted g.S.Shelf.contents g.S.Shelf.faults c.args.library.now _ _ _ c.tell_turn-turn.ensures.same c.tell_turn-turn.ensures.other c.count_after-library.ensures.value;
}
