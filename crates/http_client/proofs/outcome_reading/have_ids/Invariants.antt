-- The rows so far are those of the ids so far.
use Rattle.std.proofs.Common.{◌≡◌, map, take}
use Rattle.http_client.specs.OrderOutcome.{row_id}
use Rattle.http_client.proofs.outcome_reading.have_ids.Given as goal

abbrev pub invariant-loop-place : goal.invariant-loop-place
invariant-loop-place l = map row_id (take l.place l.rows) ≡ take l.place l.ids
