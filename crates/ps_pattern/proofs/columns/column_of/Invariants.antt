use Rattle.ps_pattern.proofs.RowsLoseColumns.{Taken}
use Rattle.ps_pattern.proofs.columns.column_of.Given as goal

abbrev pub invariant-loop-row : goal.invariant-loop-row
invariant-loop-row l = Taken l.v l.row-index l.fn.rows l.rows l.bounds
