-- The passes that were taken are joined into the first, which has seen nothing.
use Rattle.std.proofs.Common.{◌≡◌, ℕ, ◌+◌, [], All, vec_len, Some}
use Rattle.turnstile.specs.PassView.{IsNewPass, IsPassOf, parts_of, passes_of, seen_of, start_of}
use Rattle.depot.specs.DepotView.{DepotView}
use Rattle.sync_calls.specs.Making.{IsFresh}
use Rattle.sync_calls.proofs.making.end_one.Given as goal

abbrev pub invariant-loop-other : goal.invariant-loop-other
invariant-loop-other g l =
    IsPassOf l.lock l.first × (seen_of l.first ≡ []) × (parts_of l.first + vec_len l.passes ≡ passes_of l.first)
    × ((passes : ℕ) (depot : DepotView g.row.S.Denot) → IsFresh passes depot l.fn.fresh → (start_of l.first ≡ Some depot) × (passes_of l.first ≡ passes) × All (IsNewPass l.lock (Some depot) passes 0) l.passes.items)

abbrev pub decreases-loop-other : goal.decreases-loop-other
decreases-loop-other g l = vec_len l.passes
