-- `firsts::begin` meets its contract: the rules in front of p have given what can stand first in them (`RulesLed`).
use Rattle.firsts.specs.Begun.{begin_goes}
use Rattle.firsts.proofs.begin.Goals as goal

pub loop-p-preserved : goal.loop-p-preserved
loop-p-preserved c = begin_goes c.loop-p.invariant c.lead-list.ensures
