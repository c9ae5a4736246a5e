use Rattle.verdict.specs.Filling.{Filling}
use Rattle.verdict.proofs.rows.write_rows.Given as goal

abbrev pub invariant-loop-p : goal.invariant-loop-p
invariant-loop-p l = Filling l.rules l.p l.sides l.rows
