-- Each turn so far went on, with the collection that runs as its goal.
use Rattle.collection_turns.proofs.CollectingLemmas.{IsCollecting}
use Rattle.collection_turns.proofs.collecting.take_turns.Given as goal

abbrev pub invariant-loop-taken : goal.invariant-loop-taken
invariant-loop-taken g l =
    IsCollecting g.T.Collectable.view g.T.Collectable.notes g.T.Storage.Shelf.contents g.T.Storage.Shelf.may_give g.T.Storage.Shelf.texts g.T.Storage.Shelf.faults
    (g.C.Clock.shows l.clock) l.initial.library l.goal l.removed l._taken l.library
