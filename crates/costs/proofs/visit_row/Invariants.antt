use Rattle.costs.specs.Visiting.{Rowing}
use Rattle.costs.proofs.visit_row.Given as goal

abbrev pub invariant-loop-w : goal.invariant-loop-w
invariant-loop-w l = Rowing l.rules l.mentions l.row l.w l.initial.table l.table l.fallen
