use Rattle.std.proofs.Common.{drop}
use Rattle.firsts.specs.Fronts.{Fronted}
use Rattle.firsts.proofs.first_with.Given as goal

abbrev pub invariant-loop-x : goal.invariant-loop-x
invariant-loop-x l = Fronted l.null l.firsts l.base l.right (drop l.x-index l.right) l.set
