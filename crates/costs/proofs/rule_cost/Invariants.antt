use Rattle.costs.specs.Held.{entry}
use Rattle.costs.proofs.Summing.{Summed}
use Rattle.costs.proofs.rule_cost.Given as goal

abbrev pub invariant-loop-x : goal.invariant-loop-x
invariant-loop-x l = Summed (entry l.table) l.x-items l.x-index l.sum
