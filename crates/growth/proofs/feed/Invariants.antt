use Rattle.growth.specs.Closing.{Feeding}
use Rattle.growth.proofs.feed.Given as goal

abbrev pub invariant-loop-rest : goal.invariant-loop-rest
invariant-loop-rest l = Feeding l.fed l.mask l.rest l.initial.sets l.sets l.grown

abbrev pub decreases-loop-rest : goal.decreases-loop-rest
decreases-loop-rest l = l.rest
