use mathlib.Core.Path.{◌≡◌}
use lib.ListN.{length}
use Rattle.shape.proofs.Placing.{Passed}
use Rattle.shape.proofs.rules_right.Given as goal

abbrev pub invariant-loop-p : goal.invariant-loop-p
invariant-loop-p l = Passed l.words l.places l.at l.p × (length l.places ≡ length l.initial.places)
