-- What is kept so far, with the rest of the rows, is all.
use Rattle.tree_fetch.proofs.RowLemmas.{RowsLeft}
use Rattle.tree_fetch.proofs.list.keep_rows.Given as goal

abbrev pub invariant-loop-row : goal.invariant-loop-row
invariant-loop-row l = RowsLeft l.rows l.row-index l.initial.held l.held
