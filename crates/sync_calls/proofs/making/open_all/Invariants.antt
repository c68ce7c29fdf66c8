-- The rooms that were taken are open.
use Rattle.std.proofs.Common.{◌≡◌, ℕ, ◌+◌, ◌≤◌, List, [], All, vec_len}
use Rattle.std.specs.Prelude.{vec_capacity}
use Rattle.depot.specs.DepotView.{DepotView}
use Rattle.sync_calls.specs.Hall.{ExitOf}
use Rattle.sync_calls.specs.Making.{AreBehind, IsFresh, IsSeated}
use Rattle.sync_calls.proofs.OpenedLemmas.{AreOpened}
use Rattle.sync_calls.proofs.making.open_all.Given as goal

abbrev pub invariant-loop-fresh : goal.invariant-loop-fresh
invariant-loop-fresh g l =
    (vec_len l.hall.rooms + vec_len l.rooms ≡ vec_len l.initial.rooms) × (vec_len l.initial.rooms ≤ vec_capacity l.hall.rooms) × (vec_len l.seated ≡ vec_len l.initial.seated)
    × ((passes : ℕ) × (way : ExitOf g.row.S.Denot) × (depots : List (DepotView g.row.S.Denot)) × (vec_len l.seated ≡ passes)
    × AreOpened g.S.Shelf.contents g.S.Shelf.may_give g.S.Shelf.texts g.S.Shelf.faults (vec_len l.initial.rooms) passes way depots l.hall l.seated.items l.rooms.items)
    × ((passes : ℕ) (way : ExitOf g.row.S.Denot) (depots : List (DepotView g.row.S.Denot)) → vec_len way.depots ≡ 0 → vec_len l.initial.rooms ≤ vec_capacity way.depots
    → All (IsSeated (vec_len l.initial.rooms) passes l.initial.hall.exit way) l.initial.seated.items → AreBehind (IsFresh passes) depots [] l.initial.rooms.items
    → AreOpened g.S.Shelf.contents g.S.Shelf.may_give g.S.Shelf.texts g.S.Shelf.faults (vec_len l.initial.rooms) passes way depots l.hall l.seated.items l.rooms.items)

abbrev pub decreases-loop-fresh : goal.decreases-loop-fresh
decreases-loop-fresh g l = vec_len l.rooms
