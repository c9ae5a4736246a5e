use Rattle.verdict.specs.Prices.{Limits}
use Rattle.verdict.proofs.limits.Given as goal

abbrev pub invariant-loop-t : goal.invariant-loop-t
invariant-loop-t l = Limits l.rules l.t l.limits
