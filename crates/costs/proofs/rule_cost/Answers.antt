-- `costs::rule_cost` meets its contract: the sum is that of the symbols in front of the index.
use Rattle.costs.proofs.Summing.{sum_none, sum_more, sum_all}
use Rattle.costs.proofs.rule_cost.Goals as goal

pub loop-x-init : goal.loop-x-init
loop-x-init c = sum_none _ _

pub loop-x-preserved : goal.loop-x-preserved
loop-x-preserved c =
    rw c.from.ensures
    (sum_more c.right_side-x-items.result.now c.loop-x.invariant c.loop-x-test.true (c.requires.limited.limit _))

pub returns : goal.returns
returns c =
    rw (← c.right_side-x-items.ensures.right.is) (sum_all c.right_side-x-items.result.now c.loop-x.invariant c.loop-x-test.false)
