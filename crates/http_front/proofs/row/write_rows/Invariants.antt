-- The text so far is that of the rows so far.
use Rattle.std.proofs.Common.{◌≡◌, take}
use Rattle.http_front.specs.Rows.{FitRows, rows_text}
use Rattle.http_front.proofs.row.write_rows.Given as goal

abbrev pub invariant-loop-row : goal.invariant-loop-row
invariant-loop-row l = record {
  text : l.text.items ≡ rows_text (take l.row-index l.rows);
  fits : FitRows (take l.row-index l.rows);
}
