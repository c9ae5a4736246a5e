use Rattle.costs.specs.Empty.{Emptied}
use Rattle.costs.proofs.empties.Given as goal

abbrev pub invariant-loop-k : goal.invariant-loop-k
invariant-loop-k l = Emptied l.words l.k l.mask
