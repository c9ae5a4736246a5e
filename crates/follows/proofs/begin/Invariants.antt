use Rattle.follows.specs.Begun.{RulesFed}
use Rattle.follows.proofs.begin.Given as goal

abbrev pub invariant-loop-p : goal.invariant-loop-p
invariant-loop-p l = RulesFed l.masks.ws l.masks.null l.masks.firsts l.p l.feeds l.out l.list
