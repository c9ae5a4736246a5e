use Rattle.correction.specs.Popping.{PoppedOf}
use Rattle.correction.proofs.pop.Given as goal

abbrev pub invariant-loop-k : goal.invariant-loop-k
invariant-loop-k l = PoppedOf l.masks l.stack l.initial.edits l.initial.q l.r l.k l.q l.edits
