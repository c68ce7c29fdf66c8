-- What was read are rows, and they are all of the body up to this place.
use Rattle.std.proofs.Common.{◌≡◌, ◌≤◌, ◌-◌, ◌++◌, All, drop, length}
use Rattle.http_front.specs.Rows.{IsRow, rows_text}
use Rattle.http_front.proofs.row.read_rows.Given as goal

abbrev pub invariant-loop-at : goal.invariant-loop-at
invariant-loop-at l = record {
  are_rows : All IsRow l.rows;
  whole : l.body ≡ rows_text l.rows ++ drop l.at l.body;
  place : l.at ≡ length (rows_text l.rows);
  within : l.at ≤ length l.body;
}

abbrev pub decreases-loop-at : goal.decreases-loop-at
decreases-loop-at l = length l.body - l.at
