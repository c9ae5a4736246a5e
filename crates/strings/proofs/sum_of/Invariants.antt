use Rattle.strings.proofs.Filling.{Summed}
use Rattle.strings.proofs.Filling.{Summed}
use Rattle.strings.proofs.sum_of.Given as goal

abbrev pub invariant-loop-left : goal.invariant-loop-left
invariant-loop-left l = Summed l.lengths l.right l.left l.sum

abbrev pub decreases-loop-left : goal.decreases-loop-left
decreases-loop-left l = l.left
