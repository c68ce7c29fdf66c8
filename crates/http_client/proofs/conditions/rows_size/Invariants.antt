-- The rows so far are counted.
use Rattle.std.proofs.Common.{◌≡◌, ◌-◌, ◌^◌, length, min, take}
use Rattle.http_front.specs.Rows.{rows_text}
use Rattle.http_client.proofs.conditions.rows_size.Given as goal

abbrev pub invariant-loop-row : goal.invariant-loop-row
invariant-loop-row l = l.size ≡ min (length (rows_text (take l.row-index l.rows))) (2 ^ 64 - 1)
