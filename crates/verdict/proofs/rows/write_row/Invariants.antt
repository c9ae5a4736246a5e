use Rattle.verdict.specs.Rows.{RowTo}
use Rattle.verdict.proofs.rows.write_row.Given as goal

abbrev pub invariant-loop-i : goal.invariant-loop-i
invariant-loop-i l = RowTo l.symbols l.link l.i l.row l.right
