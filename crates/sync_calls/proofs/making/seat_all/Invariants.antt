-- The passes that were taken are seated.
use Rattle.std.proofs.Common.{◌≡◌, ℕ, ◌+◌, ◌≤◌, [], All, vec_len, Some}
use Rattle.std.specs.Prelude.{vec_capacity}
use Rattle.turnstile.specs.PassView.{IsNewPass}
use Rattle.sync_calls.specs.Hall.{ExitLock, ExitOf}
use Rattle.sync_calls.specs.Making.{IsSeated}
use Rattle.sync_calls.proofs.making.seat_all.Given as goal

abbrev pub invariant-loop-exit : goal.invariant-loop-exit
invariant-loop-exit g l =
    (vec_len l.tables ≡ vec_len l.shares) × (vec_len l.seats + vec_len l.shares ≤ vec_capacity l.seats) × (vec_len l.seats + vec_len l.shares ≡ vec_len l.initial.shares)
    × ((rooms passes : ℕ) (exit : ExitLock g.row.S.Denot) (way : ExitOf g.row.S.Denot) → All (λ table. (table.items ≡ []) × (rooms ≤ vec_capacity table)) l.initial.tables.items
    → All (IsNewPass exit (Some way) passes 0) l.initial.shares.items
    → All (λ table. (table.items ≡ []) × (rooms ≤ vec_capacity table)) l.tables.items × All (IsNewPass exit (Some way) passes 0) l.shares.items × All (IsSeated rooms passes exit way) l.seats.items)

abbrev pub decreases-loop-exit : goal.decreases-loop-exit
decreases-loop-exit g l = vec_len l.shares
