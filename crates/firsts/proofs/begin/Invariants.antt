use Rattle.firsts.specs.Begun.{RulesLed}
use Rattle.firsts.proofs.begin.Given as goal

abbrev pub invariant-loop-p : goal.invariant-loop-p
invariant-loop-p l = RulesLed l.rules l.null l.p l.feeds l.out l.list
