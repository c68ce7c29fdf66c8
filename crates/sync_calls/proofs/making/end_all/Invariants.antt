-- What is back and what is left are all.
use Rattle.std.proofs.Common.{ℕ, ◌+◌, ◌≤◌, List, vec_len}
use Rattle.std.specs.Prelude.{vec_capacity}
use Rattle.depot.specs.DepotView.{DepotView}
use Rattle.sync_calls.specs.Making.{AreEndedTo}
use Rattle.sync_calls.proofs.making.end_all.Given as goal

abbrev pub invariant-loop-fresh : goal.invariant-loop-fresh
invariant-loop-fresh g l =
    (vec_len l.depots + vec_len l.rooms ≤ vec_capacity l.depots)
    × ((passes : ℕ) × (all : List (DepotView g.row.S.Denot)) × (1 ≤ passes) × AreEndedTo g.S.Shelf.contents g.S.Shelf.may_give g.S.Shelf.texts g.S.Shelf.faults passes all l.depots.items l.rooms.items)
    × ((passes : ℕ) (all : List (DepotView g.row.S.Denot)) → AreEndedTo g.S.Shelf.contents g.S.Shelf.may_give g.S.Shelf.texts g.S.Shelf.faults passes all l.fn.depots.items l.initial.rooms.items
    → AreEndedTo g.S.Shelf.contents g.S.Shelf.may_give g.S.Shelf.texts g.S.Shelf.faults passes all l.depots.items l.rooms.items)

abbrev pub decreases-loop-fresh : goal.decreases-loop-fresh
decreases-loop-fresh g l = vec_len l.rooms
