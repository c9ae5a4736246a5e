use Rattle.moves.specs.Ways.{Going}
use Rattle.moves.proofs.descend.Given as goal

abbrev pub invariant-loop-d : goal.invariant-loop-d
invariant-loop-d l = Going l.masks l.stack l.t l.initial.d l.d

abbrev pub decreases-loop-d : goal.decreases-loop-d
decreases-loop-d l = l.d.height
