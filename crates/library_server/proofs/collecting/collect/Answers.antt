-- The turns, and what they leave where the storage never fails.
use Rattle.library_server.proofs.CollectingWholeLemmas.{collects_on}
use Rattle.library_server.proofs.collecting.collect.Goals as goal

pub returns : goal.returns
returns g c = record {
  value = collects_on g.S.Shelf.contents g.S.Shelf.may_give g.S.Shelf.texts g.S.Shelf.faults (g.C.Clock.shows c.args.clock.now) c.args.library.now c.args.lib c.args.secret.now
      c.collect.result c.collect.new.library c.collect.ensures.value;
}
